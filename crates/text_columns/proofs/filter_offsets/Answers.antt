-- `text_columns::filter_offsets` meets its contract: each block writes where its rows end, the first of those that are left. Assumes nothing.
use Rattle.std.proofs.Common.{ap, ◌∙◌, arith}
use Rattle.format.specs.Bytes.{to_le}
use Rattle.format.specs.Put.{Wrote}
use Rattle.format.proofs.Numbers.{to_le-mod}
use Rattle.format.proofs.Put.{named}
use Rattle.text_columns.proofs.TextWalk.{total-lt, zero-fits, ends-fit, offsets-done, sum-none, sum-run, sum_among, sum_fits, sum_more, sum_done}
use Rattle.text_columns.proofs.filter_offsets.Given.{Over}
use Rattle.text_columns.proofs.filter_offsets.Goals as goal
use Rattle.text_columns.proofs.filter_offsets.Goals.{After-put-from}

pub put-from-requires : goal.put-from-requires
put-from-requires g c = zero-fits _ _ _ _ c.requires.room

-- the first offset is 0
zero : (g : Over) (c : After-put-from g) → Wrote c.args.out.now c.args.at (to_le g.N.Number.WIDTH 0) c.put-from.new.out c.put-from.result
zero g c = named c.put-from.ensures (ap (to_le _) c.low.ensures ∙ to_le-mod _ 0)

pub loop-block-init : goal.loop-block-init
loop-block-init g c = sum-none c.requires.offsets c.new-block-items.ensures.begun c.into_iter-block-iterator.ensures.into_iter_gives

pub put_run-to-requires : goal.put_run-to-requires
put_run-to-requires g c =
    let n = rw c.in-Run.is at c.in-Some.ensures.steps.block in
    let fit = ends-fit _ _ (zero g (goal.at.put_run-to-requires g c).After-put-from) c.requires.room in
    let less = total-lt _ _ _ (λ i. omega (arith, c.type_inv.journal i)) c.args.sel c.requires.offsets in
    record { a_le_e = sum-run c.loop-block.invariant n c.requires.offsets; a_bound = sum_fits c.loop-block.invariant n _ less fit }

pub loop-block-preserved-in-Run : goal.loop-block-preserved-in-Run
loop-block-preserved-in-Run g c =
    let n = rw c.in-Run.is at c.in-Some.ensures.steps.block in
    sum_more c.loop-block.invariant n c.put_run-to.ensures.wrote c.put_run-to.ensures.sum_value

pub put_each-to-requires : goal.put_each-to-requires
put_each-to-requires g c =
    let n = rw c.in-Word.is at c.in-Some.ensures.steps.block in
    let fit = ends-fit _ _ (zero g (goal.at.put_each-to-requires g c).After-put-from) c.requires.room in
    let less = total-lt _ _ _ (λ i. omega (arith, c.type_inv.journal i)) c.args.sel c.requires.offsets in
    rw (c.new.ensures.base, c.new.ensures.rest) (record { among = sum_among c.loop-block.invariant n; rows_bound = sum_fits c.loop-block.invariant n _ less fit })

pub loop-block-preserved-in-Word : goal.loop-block-preserved-in-Word
loop-block-preserved-in-Word g c =
    let n = rw c.in-Word.is at c.in-Some.ensures.steps.block in
    let rows = rw (c.new.ensures.base, c.new.ensures.rest) at c.put_each-to.ensures in
    sum_more c.loop-block.invariant n rows.wrote rows.sum_value

pub put_each-to-requires-in-Listed : goal.put_each-to-requires-in-Listed
put_each-to-requires-in-Listed g c =
    let n = rw c.in-Listed.is at c.in-Some.ensures.steps.block in
    let fit = ends-fit _ _ (zero g (goal.at.put_each-to-requires-in-Listed g c).After-put-from) c.requires.room in
    let less = total-lt _ _ _ (λ i. omega (arith, c.type_inv.journal i)) c.args.sel c.requires.offsets in
    rw c.new-in-Listed.ensures (record { among = sum_among c.loop-block.invariant n; rows_bound = sum_fits c.loop-block.invariant n _ less fit })

pub loop-block-preserved : goal.loop-block-preserved
loop-block-preserved g c =
    let n = rw c.in-Listed.is at c.in-Some.ensures.steps.block in
    let rows = rw c.new-in-Listed.ensures at c.put_each-to-in-Listed.ensures in
    sum_more c.loop-block.invariant n rows.wrote rows.sum_value

pub returns : goal.returns
returns g c =
    let both = sum_done c.loop-block.invariant c.in-None.ensures.steps.block.gives in
    record { wrote = offsets-done _ _ (zero g (goal.at.returns g c).After-put-from) both.0; sum_value = both.1 }
