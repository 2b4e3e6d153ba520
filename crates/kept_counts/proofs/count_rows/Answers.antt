-- `count_rows` meets its contract. Assumes nothing.
use Rattle.std.proofs.Common.{length, ap, ◌∙◌, arith}
use native.Mathlib.Nat.{zero-add}
use Rattle.nesting.proofs.ByKind.{rows-small}
use Rattle.stretches.proofs.Ranges.{among-first, among_rest, among-left, rows-left, kept-few, length-off, length-end}
use Rattle.kept_counts.proofs.count_rows.Goals as goal

pub loop-from-init : goal.loop-from-init
loop-from-init c =
    let b = c.new-from-items.ensures in
    rw c.into_iter-from-iterator.ensures.into_iter_gives (among-left b, zero-add _ ∙ ap length (rows-left b))

pub overflow_sub-n : goal.overflow_sub-n
overflow_sub-n c = omega (arith, (among-first c.in-Some.ensures.steps c.loop-from.invariant.0).0)

pub overflow_add-n : goal.overflow_add-n
overflow_add-n c = omega (arith, length-off c.in-Some.ensures.steps, c.loop-from.invariant.1, kept-few c.args.counted c.args.node c.requires.inside, rows-small c.args.counted.ready.sound c.args.node c.requires.inside)

pub loop-from-preserved : goal.loop-from-preserved
loop-from-preserved c = (among_rest c.in-Some.ensures.steps c.loop-from.invariant.0, omega (arith, length-off c.in-Some.ensures.steps, c.loop-from.invariant.1))

pub returns : goal.returns
returns c = omega (arith, length-end c.in-None.ensures.steps.0, c.loop-from.invariant.1)
