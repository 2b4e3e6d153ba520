-- `bitmaps::Bitmap::push_picked` meets its contract: a run, or one push. Assumes nothing.
use Prim.Native.Nat.{◌-◌}
use mathlib.Core.Path.{◌≡◌}
use native.Mathlib.Omega.{arith}
use lib.Count.{ones-le}
use Rattle.format.specs.Rows.{set_rows}
use Rattle.format.specs.Slots.{count_up}
use Rattle.format.proofs.RowLaws.{length-set-rows, below-set}
use Rattle.format.proofs.SlotLaws.{length_up}
use Rattle.bits.proofs.PackLaws.{picks-able, picks-pushed}
use Rattle.bitmaps.proofs.WordWalk.{set-bits, run-bits, one-run}
use Rattle.bitmaps.proofs.Bitmap.push_picked.Goals as goal
use Rattle.bitmaps.proofs.Bitmap.push_picked.Goals.{Then-run-eq0}

pub lowest_run-run-requires-clause-fits : goal.lowest_run-run-requires-clause-fits
lowest_run-run-requires-clause-fits c = below-set _ _ _ (omega (arith, c.requires.rows))

-- the set bits stand together: the word's rows are those of its run
rows_are : (c : Then-run-eq0) →
    let a = c.args in
    let run = c.lowest_run-run.result in
    set_rows a.base a.word ≡ count_up (run.to - run.from) run.from
rows_are c = one-run c.lowest_run-run.ensures c.if-run-eq0.true

pub push_low-requires-clause-room : goal.push_low-requires-clause-room
push_low-requires-clause-room c =
    let a = c.args in
    let run = c.lowest_run-run.result in
    rw (rows_are (goal.at.push_low-requires-clause-room c).Then-run-eq0, length_up (run.to - run.from) run.from) at c.requires.room

pub returns-then-run-eq0 : goal.returns-then-run-eq0
returns-then-run-eq0 c =
    let a = c.args in
    let run = c.lowest_run-run in
    let bits = run-bits a.column.values.now a.column.from run.result.from _ (run.result.to - run.result.from) c.word-near.ensures (omega (arith, run.ensures.low, run.ensures.high)) in
    rw (rows_are (goal.at.returns-then-run-eq0 c).Then-run-eq0) (rw bits at c.push_low.ensures)

pub push-requires-clause-bits : goal.push-requires-clause-bits
push-requires-clause-bits c =
    let fits = c.ranges.word.fits in
    (ones-le 64 c.args.word fits, rw c.compress.ensures (picks-able _ c.args.word fits))

pub push-requires-clause-room : goal.push-requires-clause-room
push-requires-clause-room c = rw (length-set-rows c.args.base c.args.word c.ranges.word.fits) at c.requires.room

pub returns : goal.returns
returns c =
    let a = c.args in
    let fits = c.ranges.word.fits in
    let bits = set-bits a.column.values.now a.column.from a.base _ a.word c.word-value.ensures in
    rw (c.compress.ensures, picks-pushed _ a.word fits, bits) at c.push.ensures
