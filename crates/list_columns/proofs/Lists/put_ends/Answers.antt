-- `list_columns::Lists::put_ends` meets its contract. A turn takes the first of the rows that are left, and writes where it ends. Assumes nothing.
use Rattle.std.proofs.Common.{◌+◌, refl, ap, ◌∙◌, arith}
use Rattle.format.specs.Bytes.{to_le}
use Rattle.format.proofs.Numbers.{to_le-mod}
use Rattle.format.proofs.Put.{named}
use Rattle.append.proofs.CellLaws.{among-others}
use Rattle.texts.proofs.TextLaws.{begins, end_fits, end-room, turns, ended}
use Rattle.list_columns.proofs.SpanLaws.{spans-number, span-first}
use Rattle.list_columns.proofs.Lists.put_ends.Goals as goal

pub loop-row-init-derived : goal.loop-row-init-derived
loop-row-init-derived g c = rw c.into_iter-row-iterator.ensures.into_iter_gives (g.met.R.Rows.can _ (spans-number c.requires.among), g.met.R.Rows.ends _)

pub loop-row-init : goal.loop-row-init
loop-row-init g c =
    rw c.into_iter-row-iterator.ensures.into_iter_gives (g.met.R.Rows.can _ (spans-number c.requires.among), g.met.R.Rows.ends _, c.requires.among, begins)

pub size-end-requires : goal.size-end-requires
size-end-requires g c = span-first c.loop-row.invariant.2 (g.met.R.Rows.gives _ _ _ c.in-Some.ensures.steps)

pub overflow_add-end : goal.overflow_add-end
overflow_add-end g c =
    let fit = end_fits c.loop-row.invariant.3 (g.met.R.Rows.gives _ _ _ c.in-Some.ensures.steps) in
    record { fits = omega (arith, fit, c.size-end.ensures, c.requires.rows_bound.0) }

pub put-here-requires : goal.put-here-requires
put-here-requires g c = end-room c.loop-row.invariant.3 (g.met.R.Rows.gives _ _ _ c.in-Some.ensures.steps) c.requires.rows_bound.1

pub loop-row-preserved : goal.loop-row-preserved
loop-row-preserved g c =
    let first = g.met.R.Rows.gives _ _ _ c.in-Some.ensures.steps in
    let on = c.in-Some.ensures.goes.on c.loop-row.invariant.1 in
    (on.0, on.1, among-others c.loop-row.invariant.2 first, turns c.loop-row.invariant.3 first (ap (c.loop-row.end +◌) c.size-end.ensures) (named c.put-here.ensures (ap (to_le _) c.low.ensures ∙ to_le-mod _ _)))

pub returns : goal.returns
returns g c = let both = ended c.loop-row.invariant.3 (g.met.R.Rows.gives _ _ _ c.in-None.ensures.steps).0 refl in record { wrote = both.0; sum_value = both.1 }
