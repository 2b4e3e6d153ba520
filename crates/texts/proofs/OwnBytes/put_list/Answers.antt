-- `texts::OwnBytes::put_list` meets its contract. A turn takes the first of the rows that are left, and writes its own bytes. Assumes nothing.
use Rattle.std.proofs.Common.{sym, ◌∙◌, arith}
use Rattle.append.proofs.CellLaws.{rows-all, part-needs, part-more, rows-done}
use Rattle.texts.proofs.TextLaws.{texts-none, texts-append, rows_few, row-texts, run-one}
use Rattle.texts.proofs.OwnBytes.put_list.Goals as goal

pub loop-row-init : goal.loop-row-init
loop-row-init c = rows-all c.requires.among (rw (c.into_iter-row-iterator.ensures.into_iter_gives, c.new-row-items.ensures))

pub overflow_add-row : goal.overflow_add-row
overflow_add-row c = record { fits = omega (arith, rows_few (row-texts c.loop-row.invariant.among c.in-Some.ensures.steps).1) }

pub put_run-here-requires : goal.put_run-here-requires
put_run-here-requires c =
    let left = c.loop-row.invariant in
    let off = c.in-Some.ensures.steps ∙ sym (run-one c.in-Some.row _) in
    record { a_le_e = row-texts left.among c.in-Some.ensures.steps; a_in_bounds = (part-needs left _ _ off (texts-append _ _ _ _ _) c.requires.rows_in_bounds).1 }

pub loop-row-preserved : goal.loop-row-preserved
loop-row-preserved c = part-more c.loop-row.invariant _ _ (c.in-Some.ensures.steps ∙ sym (run-one c.in-Some.row _)) (texts-append _ _ _ _ _) c.put_run-here.ensures

pub returns : goal.returns
returns c = rows-done c.loop-row.invariant (texts-none _ _ _ _ c.in-None.ensures.steps.0)
