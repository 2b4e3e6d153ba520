-- What the loop of `native::filter_native` keeps, and its measure. Assumes nothing.
use Prim.Native.Nat.{◌-◌}
use Rattle.predicate.specs.Selection.{reach}
use Rattle.gather.specs.Column.{entries_in}
use Rattle.columns.proofs.Walk.{WalkedOn}
use Rattle.columns.proofs.native.filter_native.Given as goal

abbrev pub invariant-loop-block : goal.invariant-loop-block
invariant-loop-block l = WalkedOn (entries_in l.column) l.sel l.initial.out l.at l.out l.here l.blocks

abbrev pub decreases-loop-block : goal.decreases-loop-block
decreases-loop-block l = reach l.blocks.sel - l.blocks.place
