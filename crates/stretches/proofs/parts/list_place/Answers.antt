-- `list_place` meets its contract. Assumes nothing.
use Rattle.std.proofs.Common.{arith, sym, ◌∙◌}
use Rattle.stretches.proofs.Places.{found-past, found-gap, found-row, found-null}
use Rattle.stretches.proofs.parts.list_place.Goals as goal

pub returns-then-q-rows : goal.returns-then-q-rows
returns-then-q-rows c = rw c.child_rows.ensures (found-past c.args.list.at c.list_past-q.ensures (sym c.rows.ensures ∙ sym c.if-q-rows.true) c.requires)

pub returns-then-x-start : goal.returns-then-x-start
returns-then-x-start c = found-gap c.args.list.at c.list_past-q.ensures (omega (arith, c.list_past-q.ensures.high, c.if-q-rows.false)) c.start-start.ensures c.if-x-start.true

pub returns-then-valid : goal.returns-then-valid
returns-then-valid c = found-row c.args.list.at c.list_past-q.ensures (omega (arith, c.list_past-q.ensures.high, c.if-q-rows.false)) c.start-start.ensures c.if-x-start.false c.valid.ensures c.if-valid.true

pub returns : goal.returns
returns c = found-null c.args.list.at c.list_past-q.ensures (omega (arith, c.list_past-q.ensures.high, c.if-q-rows.false)) c.valid.ensures c.if-valid.false c.start.ensures
