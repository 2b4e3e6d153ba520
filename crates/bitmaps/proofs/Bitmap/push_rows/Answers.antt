-- `bitmaps::Bitmap::push_rows` meets its contract. The invariant: the bits of the rows passed are added. Assumes nothing.
use native.Mathlib.Omega.{arith}
use lib.ListN.{get_or}
use Rattle.bitmaps.proofs.PushLaws.{adds_then}
use Rattle.bitmaps.proofs.WordWalk.{run-bits, listed_more}
use Rattle.bitmaps.proofs.Bitmap.push_rows.Goals as goal

pub loop-row-preserved : goal.loop-row-preserved
loop-row-preserved c =
    let a = c.args in
    let l = c.loop-row in
    let b = a.column.values.now in
    let bits = run-bits b a.column.from (get_or a.rows.now l.row-index 0) _ 1 c.word.ensures (omega arith) in
    rw (listed_more b a.column.from a.rows.now l.row-index (omega arith)) (adds_then l.invariant (rw bits at c.push_low.ensures))
