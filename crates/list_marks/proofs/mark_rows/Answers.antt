-- `list_marks::mark_rows` meets its contract. What is left to mark are the child rows of the rows that are left; a turn takes the lowest run. Assumes nothing.
use Rattle.std.proofs.Common.{arith}
use Rattle.format.proofs.RowLaws.{set-none, below_wider}
use Rattle.marks.proofs.Marking.{marking-start, marking-less, marking-done}
use Rattle.nesting.proofs.ListAt.{rows_few}
use Rattle.list_marks.proofs.Spans.{spans-none, run-inside, rest-inside, run-range, run-spans}
use Rattle.list_marks.proofs.mark_rows.Goals as goal

pub loop-from-init-derived : goal.loop-from-init-derived
loop-from-init-derived c =
    rw (c.into_iter-from-iterator.ensures.into_iter_gives, c.new-from-items.ensures.base, c.new-from-items.ensures.rest)
    (below_wider (omega (arith, rows_few c.args.list.at)) c.requires.below, tt)

pub loop-from-init : goal.loop-from-init
loop-from-init c =
    rw (c.into_iter-from-iterator.ensures.into_iter_gives, c.new-from-items.ensures.base, c.new-from-items.ensures.rest) (c.requires.below, marking-start)

pub start-requires : goal.start-requires
start-requires c = let k = run-inside c.args.list.at c.in-Some.ensures.steps.1 c.loop-from.invariant.0 in omega (arith, k)

pub start-requires-in-loop-from : goal.start-requires-in-loop-from
start-requires-in-loop-from c = let k = run-inside c.args.list.at c.in-Some.ensures.steps.1 c.loop-from.invariant.0 in omega (arith, k)

pub set_ones-requires : goal.set_ones-requires
set_ones-requires c =
    let i = c.loop-from.invariant in
    let k = run-range c.args.list.at c.in-Some.ensures.steps.1 i.0 in
    rw (c.start.ensures, c.start-in-loop-from.ensures) (k.0, omega (arith, k.1, i.1.marked.size, c.requires.room))

pub loop-from-preserved : goal.loop-from-preserved
loop-from-preserved c =
    let i = c.loop-from.invariant in
    let s = c.in-Some.ensures.steps in
    rw s.0 (rest-inside c.args.list.at s.1 i.0, marking-less i.1 (run-spans c.args.list.at s.1 i.0) (rw (c.start.ensures, c.start-in-loop-from.ensures) at c.set_ones.ensures))

pub shape_of-region : goal.shape_of-region
shape_of-region c = c.loop-from.invariant.1.marked.size

pub returns : goal.returns
returns c =
    marking-done c.loop-from.invariant.1 (λ k. spans-none _ _ k (set-none _ _ c.in-None.ensures.steps.1.0))
