-- What the loop of `filter_bits_blocks` keeps, and its measure. Assumes nothing.
use mathlib.Core.Path.{◌≡◌}
use Rattle.predicate.specs.Selection.{selected}
use Rattle.predicate.specs.Blocks.{rows_left}
use Rattle.bitmaps.specs.Push.{bit_from}
use Rattle.bitmaps.proofs.BlockWalk.{Walked}
use Rattle.bitmaps.proofs.filter_bits_blocks.Given as goal

abbrev pub invariant-loop-block : goal.invariant-loop-block
invariant-loop-block l = record {
  same : l.block-iterator.sel ≡ l.sel;
  walked : Walked (bit_from l.values l.from) (selected l.sel) l.fn.out l.at l.to (rows_left l.block-iterator);
  same_reference : l.to.out.ghost_name ≡ l.initial.to.out.ghost_name;
}
