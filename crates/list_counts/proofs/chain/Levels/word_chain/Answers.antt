-- `Levels::word_chain` meets its contract. What `sum` lacks are the rows that are left; a turn takes the lowest run. Assumes nothing.
use Rattle.std.proofs.Common.{arith}
use Rattle.format.specs.Rows.{set_rows}
use Rattle.format.proofs.RowLaws.{set-none, below_wider}
use Rattle.words.proofs.Carry.{rest_below}
use Rattle.spans.proofs.Spanned.{spans-none, run_inside, run-rises, run-spans}
use Rattle.list_counts.specs.Chains.{followed}
use Rattle.list_counts.proofs.Climbing.{reaches}
use Rattle.list_counts.proofs.chain.Levels.word_chain.Goals as goal

pub loop-from-init-derived : goal.loop-from-init-derived
loop-from-init-derived c =
    rw (c.into_iter-from-iterator.ensures.into_iter_gives, c.new-from-items.ensures.base, c.new-from-items.ensures.rest)
    (below_wider (omega (arith, c.requires.descends.short)) c.requires.below, tt)

pub loop-from-init : goal.loop-from-init
loop-from-init c =
    rw (c.into_iter-from-iterator.ensures.into_iter_gives, c.new-from-items.ensures.base, c.new-from-items.ensures.rest) (c.requires.below, omega arith)

pub follow-end-requires : goal.follow-end-requires
follow-end-requires c = reaches c.requires.descends (run_inside c.in-Some.ensures.steps.1 c.loop-from.invariant.0)

pub follow-requires : goal.follow-requires
follow-requires c =
    let run = c.in-Some.ensures.steps.1 in
    reaches c.requires.descends (omega (arith, run_inside run c.loop-from.invariant.0, run.filled))

pub overflow_sub-sum : goal.overflow_sub-sum
overflow_sub-sum c = run-rises c.in-Some.ensures.steps.1 c.loop-from.invariant.0 c.requires.descends.mounts.up c.follow-end.ensures c.follow.ensures

pub overflow_add-sum : goal.overflow_add-sum
overflow_add-sum c =
    let i = c.loop-from.invariant in
    record { fits = omega (arith, run-spans c.in-Some.ensures.steps.1 i.0 c.requires.descends.mounts.up c.follow-end.ensures c.follow.ensures, i.1, c.requires.word_bound) }

pub loop-from-preserved : goal.loop-from-preserved
loop-from-preserved c =
    let i = c.loop-from.invariant in
    let s = c.in-Some.ensures.steps in
    rw s.0 (rest_below s.1 i.0, omega (arith, run-spans s.1 i.0 c.requires.descends.mounts.up c.follow-end.ensures c.follow.ensures, i.1))

pub returns : goal.returns
returns c =
    let a = c.args in
    let it = c.loop-from.from-iterator in
    omega (arith, c.loop-from.invariant.1, spans-none (followed a.self.now.bytes.now a.self.now.offsets a.self.now.depth) (set_rows it.base it.rest) (set-none _ _ c.in-None.ensures.steps.1.0))
