-- What the loops of `from_mask::pass_words` keep, and their measures. Assumes nothing.
use Prim.Native.Nat.{◌-◌, ◌*◌}
use Rattle.slots.specs.Slot.{slot_in}
use Rattle.gather.specs.Column.{entries_in}
use Rattle.columns.proofs.Passing.{Passing}
use Rattle.columns.proofs.from_mask.pass_words.Given as goal

abbrev pub invariant-loop-source : goal.invariant-loop-source
invariant-loop-source l =
    Passing (entries_in l.column) (slot_in l.source) l.source.bits.len l.blocks.place l.initial.out l.at l.out l.here (64 * l.w)

abbrev pub decreases-loop-source : goal.decreases-loop-source
decreases-loop-source l = l.source.bits.len - 64 * l.w
