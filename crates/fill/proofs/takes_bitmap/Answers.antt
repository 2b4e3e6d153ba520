-- `fill::takes_bitmap` meets its contract. Assumes nothing.
use mathlib.Core.Bool.{not}
use mathlib.Core.Path.{sym, ap, ◌∙◌}
use native.Mathlib.Numerals.{add-one}
use Rattle.nesting.proofs.Handed.{takes-is}
use Rattle.nesting.proofs.Scratch.{child-inside}
use Rattle.fill.specs.Scratch.{takes_bitmap}
use Rattle.fill.proofs.takes_bitmap.Goals as goal

pub copied_by_offsets-requires : goal.copied_by_offsets-requires
copied_by_offsets-requires c = child-inside c.args.journal.now.sound c.requires (sym (takes-is _ _ c.node.ensures c.takes_scratch.ensures) ∙ c.if-takes_scratch.true)

pub returns-then-takes_scratch : goal.returns-then-takes_scratch
unfolding takes_bitmap
returns-then-takes_scratch c = rw (sym (takes-is _ _ c.node.ensures c.takes_scratch.ensures) ∙ c.if-takes_scratch.true, ← add-one c.args.i) (ap not c.copied_by_offsets.ensures)

pub returns-else-takes_scratch : goal.returns-else-takes_scratch
unfolding takes_bitmap
returns-else-takes_scratch c = rw (sym (takes-is _ _ c.node.ensures c.takes_scratch.ensures) ∙ c.if-takes_scratch.false, c.if-takes_scratch.false)
