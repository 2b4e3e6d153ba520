-- `select::select_and_write` meets its contract: few rows are stored for this call alone, the list where it is asked for, else the selection is the source's. Assumes nothing.
use mathlib.Core.Path.{refl, ap, ◌∙◌}
use native.Mathlib.Omega.{arith}
use lib.ListN.{length}
use Rattle.format.specs.Bytes.{over}
use Rattle.format.proofs.Laws.{kept-root}
use Rattle.nesting.specs.Rows.{picks_in}
use Rattle.nesting.proofs.ByKind.{rows-small}
use Rattle.predicate.proofs.Holding.{reach-of, sourced-of}
use Rattle.select.proofs.Selecting.{selects}
use Rattle.select.proofs.select_and_write.Goals as goal

pub write_few-requires : goal.write_few-requires
write_few-requires c =
    let s = c.args.counted.ready.sound in
    let r = c.requires.ready in
    let kept = c.kept.ensures ∙ ap length (kept-root c.args.counted.journal.now.bytes.now (picks_in c.args.counted.source)) in
    record { few = omega (arith, c.few.ensures.few c.if-few.true, kept, r.long, rows-small s 0 s.shape.some); ready = r }

pub returns-then-few : goal.returns-then-few
unfolding over
returns-then-few c = let w = c.write_few.ensures in (w.0, w.1, rw (c.few.ensures.unasked c.if-few.true) refl)

pub fill_and_write-requires : goal.fill_and_write-requires
fill_and_write-requires c =
    let q = c.requires in
    let h = c.selection_by_words-sel.ensures in
    record { selects = (selects q.goes _ _ h, omega (arith, reach-of _ _ _ _ h, q.ready.long), sourced-of _ _ _ _ h); ready = q.ready }

pub returns : goal.returns
unfolding over
returns c = let w = c.fill_and_write.ensures in (w.0, w.1, rw c.if-asked.false refl)
