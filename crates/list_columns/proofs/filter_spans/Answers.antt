-- `list_columns::filter_spans` meets its contract: each block writes where its rows end, the first of those that are left. Assumes nothing.
use Rattle.std.proofs.Common.{ap, ◌∙◌}
use Rattle.format.specs.Bytes.{to_le}
use Rattle.format.specs.Put.{Wrote}
use Rattle.format.proofs.Numbers.{to_le-mod}
use Rattle.format.proofs.Put.{named}
use Rattle.text_columns.proofs.TextWalk.{zero-fits, ends-fit, offsets-done, sum-none, sum_among, sum_fits, sum_more, sum_done}
use Rattle.list_columns.proofs.SpanLaws.{spans-small}
use Rattle.list_columns.proofs.filter_spans.Given.{Over}
use Rattle.list_columns.proofs.filter_spans.Goals as goal
use Rattle.list_columns.proofs.filter_spans.Goals.{After-put-start}

pub put-start-requires : goal.put-start-requires
put-start-requires g c = zero-fits _ _ _ _ c.requires.room

-- the first offset is 0
zero : (g : Over) (c : After-put-start g) → Wrote c.args.out.now c.args.at (to_le g.N.Number.WIDTH 0) c.put-start.new.out c.put-start.result
zero g c = named c.put-start.ensures (ap (to_le _) c.low.ensures ∙ to_le-mod _ 0)

pub loop-block-init : goal.loop-block-init
loop-block-init g c = sum-none c.requires.spans c.new-block-items.ensures.begun c.into_iter-block-iterator.ensures.into_iter_gives

pub put_ends-to-requires : goal.put_ends-to-requires
put_ends-to-requires g c =
    let n = rw c.in-Run.is at c.in-Some.ensures.steps.block in
    let fit = ends-fit _ _ (zero g (goal.at.put_ends-to-requires g c).After-put-start) c.requires.room in
    record { among = sum_among c.loop-block.invariant n; rows_bound = sum_fits c.loop-block.invariant n _ (spans-small _ _ _ _ c.args.sel c.requires.spans) fit }

pub loop-block-preserved-in-Run : goal.loop-block-preserved-in-Run
loop-block-preserved-in-Run g c =
    let n = rw c.in-Run.is at c.in-Some.ensures.steps.block in
    sum_more c.loop-block.invariant n c.put_ends-to.ensures.wrote c.put_ends-to.ensures.sum_value

pub put_ends-to-requires-in-Word : goal.put_ends-to-requires-in-Word
put_ends-to-requires-in-Word g c =
    let n = rw c.in-Word.is at c.in-Some.ensures.steps.block in
    let fit = ends-fit _ _ (zero g (goal.at.put_ends-to-requires-in-Word g c).After-put-start) c.requires.room in
    rw (c.new.ensures.base, c.new.ensures.rest) (record { among = sum_among c.loop-block.invariant n; rows_bound = sum_fits c.loop-block.invariant n _ (spans-small _ _ _ _ c.args.sel c.requires.spans) fit })

pub loop-block-preserved-in-Word : goal.loop-block-preserved-in-Word
loop-block-preserved-in-Word g c =
    let n = rw c.in-Word.is at c.in-Some.ensures.steps.block in
    let rows = rw (c.new.ensures.base, c.new.ensures.rest) at c.put_ends-to-in-Word.ensures in
    sum_more c.loop-block.invariant n rows.wrote rows.sum_value

pub put_ends-to-requires-in-Listed : goal.put_ends-to-requires-in-Listed
put_ends-to-requires-in-Listed g c =
    let n = rw c.in-Listed.is at c.in-Some.ensures.steps.block in
    let fit = ends-fit _ _ (zero g (goal.at.put_ends-to-requires-in-Listed g c).After-put-start) c.requires.room in
    rw c.new-in-Listed.ensures (record { among = sum_among c.loop-block.invariant n; rows_bound = sum_fits c.loop-block.invariant n _ (spans-small _ _ _ _ c.args.sel c.requires.spans) fit })

pub loop-block-preserved : goal.loop-block-preserved
loop-block-preserved g c =
    let n = rw c.in-Listed.is at c.in-Some.ensures.steps.block in
    let rows = rw c.new-in-Listed.ensures at c.put_ends-to-in-Listed.ensures in
    sum_more c.loop-block.invariant n rows.wrote rows.sum_value

pub returns : goal.returns
returns g c =
    offsets-done _ _ (zero g (goal.at.returns g c).After-put-start) (sum_done c.loop-block.invariant c.in-None.ensures.steps.block.gives).0
