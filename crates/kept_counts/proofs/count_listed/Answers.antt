-- `count_listed` meets its contract. Assumes nothing.
use Rattle.std.proofs.Common.{ap, ◌∙◌, arith}
use native.Mathlib.Nat.{zero-add}
use Rattle.spans.specs.Spans.{spans}
use Rattle.stretches.proofs.Ranges.{among-first, among_rest, among-left, rows-left, spans-rise, spans-off, spans-end}
use Rattle.kept_counts.proofs.Listed.{starts, starts-rise, start-here, listed, listed-few}
use Rattle.kept_counts.proofs.count_listed.Goals as goal

pub loop-from-init : goal.loop-from-init
loop-from-init c =
    let b = c.new-from-items.ensures in
    rw c.into_iter-from-iterator.ensures.into_iter_gives (among-left b, zero-add _ ∙ ap (spans (starts c.args.counted c.args.list c.requires.here)) (rows-left b))

pub start-requires : goal.start-requires
start-requires c = rw c.requires.here ((among-first c.in-Some.ensures.steps c.loop-from.invariant.0).1)

pub start-requires-in-loop-from : goal.start-requires-in-loop-from
start-requires-in-loop-from c =
    let (some, high) = among-first c.in-Some.ensures.steps c.loop-from.invariant.0 in
    rw c.requires.here (omega arith)

pub overflow_sub-n : goal.overflow_sub-n
overflow_sub-n c =
    omega (arith, start-here c.args.counted c.args.list c.requires.here _ c.start.ensures, start-here c.args.counted c.args.list c.requires.here _ c.start-in-loop-from.ensures, spans-rise (starts-rise c.args.counted c.args.list c.requires.here) c.in-Some.ensures.steps c.loop-from.invariant.0)

pub overflow_add-n : goal.overflow_add-n
overflow_add-n c =
    omega (
      arith,
      start-here c.args.counted c.args.list c.requires.here _ c.start.ensures,
      start-here c.args.counted c.args.list c.requires.here _ c.start-in-loop-from.ensures,
      spans-off (starts-rise c.args.counted c.args.list c.requires.here) c.in-Some.ensures.steps c.loop-from.invariant.0,
      c.loop-from.invariant.1,
      listed c.args.counted c.args.list c.requires.here c.requires.bare,
      listed-few c.args.counted c.args.list c.requires.here,
    )

pub loop-from-preserved : goal.loop-from-preserved
loop-from-preserved c = (
  among_rest c.in-Some.ensures.steps c.loop-from.invariant.0,
  omega (
    arith,
    start-here c.args.counted c.args.list c.requires.here _ c.start.ensures,
    start-here c.args.counted c.args.list c.requires.here _ c.start-in-loop-from.ensures,
    spans-off (starts-rise c.args.counted c.args.list c.requires.here) c.in-Some.ensures.steps c.loop-from.invariant.0,
    c.loop-from.invariant.1,
  ),
)

pub returns : goal.returns
returns c = omega (arith, spans-end (starts c.args.counted c.args.list c.requires.here) c.in-None.ensures.steps.0, c.loop-from.invariant.1, listed c.args.counted c.args.list c.requires.here c.requires.bare)
