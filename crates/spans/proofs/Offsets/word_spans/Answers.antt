-- `spans::Offsets::word_spans` meets its contract. What `n` lacks are the rows that are left; a turn takes the lowest run. Assumes nothing.
use Rattle.std.proofs.Common.{arith}
use Rattle.format.specs.Rows.{set_rows}
use Rattle.format.proofs.RowLaws.{set-none, below_wider}
use Rattle.spans.specs.Spans.{offset_from}
use Rattle.spans.proofs.Spanned.{spans-none, run_lies, start-lies, rising-rest, read-rises, read-spans}
use Rattle.spans.proofs.Offsets.word_spans.Goals as goal

pub loop-from-init-derived : goal.loop-from-init-derived
loop-from-init-derived c = rw (c.into_iter-from-iterator.ensures.into_iter_gives, c.new-from-items.ensures.base, c.new-from-items.ensures.rest) (below_wider (omega (arith, c.requires.rising.inside)) c.requires.rising.below, tt)

pub loop-from-init : goal.loop-from-init
loop-from-init c = rw (c.into_iter-from-iterator.ensures.into_iter_gives, c.new-from-items.ensures.base, c.new-from-items.ensures.rest) (c.requires.rising, omega arith)

pub get-end-requires : goal.get-end-requires
get-end-requires c = record { wide = c.requires.wide; inside = run_lies c.in-Some.ensures.steps.1 c.loop-from.invariant.0 }

pub get-requires : goal.get-requires
get-requires c = record { wide = c.requires.wide; inside = start-lies c.in-Some.ensures.steps.1 c.loop-from.invariant.0 }

pub overflow_sub-n : goal.overflow_sub-n
overflow_sub-n c = read-rises c.in-Some.ensures.steps.1 c.loop-from.invariant.0 c.get-end.ensures c.get.ensures

pub overflow_add-n : goal.overflow_add-n
overflow_add-n c =
    let i = c.loop-from.invariant in
    record { fits = omega (arith, read-spans c.in-Some.ensures.steps.1 i.0 c.get-end.ensures c.get.ensures, i.1, c.requires.word_bound) }

pub loop-from-preserved : goal.loop-from-preserved
loop-from-preserved c =
    let i = c.loop-from.invariant in
    let s = c.in-Some.ensures.steps in
    rw s.0 (rising-rest s.1 i.0, omega (arith, read-spans s.1 i.0 c.get-end.ensures c.get.ensures, i.1))

pub returns : goal.returns
returns c =
    let a = c.args in
    omega (arith, c.loop-from.invariant.1, spans-none (offset_from a.self.width a.bytes.now a.self.first) (set_rows c.loop-from.from-iterator.base c.loop-from.from-iterator.rest) (set-none _ _ c.in-None.ensures.steps.1.0))
