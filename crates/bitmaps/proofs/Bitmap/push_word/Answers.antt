-- `bitmaps::Bitmap::push_word` meets its contract. The invariant: the bits of the runs taken off are added. Assumes nothing.
use Rattle.std.proofs.Common.{arith, ◌∙◌}
use Rattle.format.proofs.RowLaws.{below-set}
use Rattle.bitmaps.proofs.WordWalk.{word_more, word-done, word_fits}
use Rattle.bitmaps.proofs.Bitmap.push_word.Goals as goal

pub loop-from-init-derived : goal.loop-from-init-derived
loop-from-init-derived c = (below-set _ _ _ (rw (c.into_iter-from-iterator.ensures.into_iter_gives, c.new-from-items.ensures.base) (omega (arith, c.requires.rows))), tt)

pub push_low-requires-clause-room : goal.push_low-requires-clause-room
push_low-requires-clause-room c = let i = c.loop-from.invariant in word_fits i.1 (rw i.0 at c.in-Some.ensures.steps.1) c.requires.room

pub loop-from-preserved : goal.loop-from-preserved
loop-from-preserved c =
    let i = c.loop-from.invariant in
    (c.in-Some.ensures.steps.0 ∙ i.0, word_more i.1 (rw i.0 at c.in-Some.ensures.steps.1) c.word.ensures c.push_low.ensures)

pub returns : goal.returns
returns c = word-done c.loop-from.invariant.1 c.in-None.ensures.steps.1.0
