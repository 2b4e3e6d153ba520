-- `fill_kept` meets its contract: marks over zeros. Assumes nothing.
use Rattle.std.proofs.Common.{length, refl, arith}
use Rattle.format.specs.Bytes.{bytes_for}
use Rattle.marks.proofs.Stored.{filled-wrote}
use Rattle.stretches.specs.Stretches.{kept_in}
use Rattle.stretches.proofs.Ranges.{among-first, among_rest, among-left}
use Rattle.stretch_marks.proofs.RunMarks.{all-left, run-marked, all-marked, region-kept}
use Rattle.stretch_marks.proofs.fill_kept.Goals as goal

pub loop-from-init : goal.loop-from-init
loop-from-init c =
    let b = c.new-from-items.ensures in
    rw c.into_iter-from-iterator.ensures.into_iter_gives (among-left b, all-left c.args.counted c.args.node c.requires.inside b)

pub set_ones-requires : goal.set_ones-requires
unfolding bytes_for
set_ones-requires c =
    let (some, high) = among-first c.in-Some.ensures.steps c.loop-from.invariant.0 in
    (omega arith, omega (arith, c.requires.size, c.loop-from.auto.region, c.fill.ensures.len))

pub loop-from-preserved : goal.loop-from-preserved
loop-from-preserved c =
    let i = c.loop-from.invariant in
    (among_rest c.in-Some.ensures.steps i.0, run-marked i.0 c.in-Some.ensures.steps i.1 c.set_ones.ensures)

pub returns : goal.returns
returns c =
    region-kept (kept_in c.args.counted c.args.node) _ (length c.args.region.now) refl c.requires.size (filled-wrote 0 (c.fill.ensures.after (λ y same. same))) (all-marked c.in-None.ensures.steps.0 c.loop-from.invariant.1)
