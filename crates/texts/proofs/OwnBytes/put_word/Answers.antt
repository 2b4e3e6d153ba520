-- `texts::OwnBytes::put_word` meets its contract. A turn takes the lowest run of the rows that are left, and writes its own bytes. Assumes nothing.
use Rattle.std.proofs.Common.{refl, arith}
use Rattle.format.proofs.RowLaws.{set-none}
use Rattle.append.proofs.CellLaws.{rows-all, part-needs, part-more, rows-done}
use Rattle.texts.proofs.TextLaws.{texts-none, texts-append, texts-number, run-texts-fit}
use Rattle.texts.proofs.OwnBytes.put_word.Goals as goal

pub loop-a-init-derived : goal.loop-a-init-derived
loop-a-init-derived c = rw (c.into_iter-a-iterator.ensures.into_iter_gives, c.new-a-items.ensures.base, c.new-a-items.ensures.rest) (texts-number (omega arith) c.requires.among, tt)

pub loop-a-init : goal.loop-a-init
loop-a-init c =
    rw (c.into_iter-a-iterator.ensures.into_iter_gives, c.new-a-items.ensures.base, c.new-a-items.ensures.rest)
    (texts-number (omega arith) c.requires.among, tt, rows-all c.requires.among refl)

pub put_run-here-requires : goal.put_run-here-requires
put_run-here-requires c =
    let low = c.in-Some.ensures.steps.1 in
    let left = c.loop-a.invariant.2 in
    record { a_le_e = run-texts-fit low left.among; a_in_bounds = (part-needs left _ _ low.rows (texts-append _ _ _ _ _) c.requires.word_in_bounds).1 }

pub loop-a-preserved : goal.loop-a-preserved
loop-a-preserved c =
    let (same, low) = c.in-Some.ensures.steps in
    let on = c.in-Some.ensures.goes.on c.loop-a.invariant.1 in
    (on.0, on.1, rw same (part-more c.loop-a.invariant.2 _ _ low.rows (texts-append _ _ _ _ _) c.put_run-here.ensures))

pub returns : goal.returns
returns c = rows-done c.loop-a.invariant.2 (texts-none _ _ _ _ (set-none _ _ c.in-None.ensures.steps.1.0))
