-- What the loops of `from_mask::pass_runs` keep, and their measures. Assumes nothing.
use Prim.Native.Nat.{◌-◌}
use Rattle.slots.specs.Slot.{slot_in}
use Rattle.gather.specs.Column.{entries_in}
use Rattle.columns.proofs.Passing.{Passing}
use Rattle.columns.proofs.from_mask.pass_runs.Given as goal

abbrev pub invariant-loop-place : goal.invariant-loop-place
invariant-loop-place l = Passing (entries_in l.column) (slot_in l.source) l.source.bits.len l.initial.place l.initial.out l.at l.out l.here l.place

abbrev pub decreases-loop-place : goal.decreases-loop-place
decreases-loop-place l = l.len - l.place
