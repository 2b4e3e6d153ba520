-- `texts::Offsets::put_each` meets its contract. A turn takes the first of the rows that are left, and writes where it ends. Assumes nothing.
use Rattle.std.proofs.Common.{◌+◌, ◌^◌, ◌<◌, refl, ap, ◌∙◌, arith}
use Rattle.format.specs.Bytes.{to_le}
use Rattle.format.proofs.Numbers.{to_le-mod}
use Rattle.format.proofs.Put.{named}
use Rattle.append.proofs.CellLaws.{among-others}
use Rattle.append.proofs.Widths.{width-some, width-small}
use Rattle.texts.proofs.TextLaws.{offsets-number, offset-fits, offset-rises, begins, end_fits, end-room, turns, ended}
use Rattle.texts.proofs.Offsets.put_each.Goals as goal

pub loop-row-init-derived : goal.loop-row-init-derived
loop-row-init-derived g c =
    rw c.into_iter-row-iterator.ensures.into_iter_gives
    (g.met.R.Rows.can _ (offsets-number (width-some _ g.met.N.Number.width) (omega arith) c.requires.among), g.met.R.Rows.ends _)

pub loop-row-init : goal.loop-row-init
loop-row-init g c =
    rw c.into_iter-row-iterator.ensures.into_iter_gives
    (g.met.R.Rows.can _ (offsets-number (width-some _ g.met.N.Number.width) (omega arith) c.requires.among), g.met.R.Rows.ends _, c.requires.among, begins)

pub size-end-requires : goal.size-end-requires
size-end-requires g c =
    let first = g.met.R.Rows.gives _ _ _ c.in-Some.ensures.steps in
    record { row_in_bounds = offset-fits c.loop-row.invariant.2 first; row_bound = offset-rises c.loop-row.invariant.2 first }

pub overflow_add-end : goal.overflow_add-end
overflow_add-end g c =
    let fit = end_fits c.loop-row.invariant.3 (g.met.R.Rows.gives _ _ _ c.in-Some.ensures.steps) in
    let small : c.loop-row.end + c.size-end.result < 256 ^ g.N.Number.WIDTH = omega (arith, fit, c.size-end.ensures, c.requires.rows_bound.0) in
    record { fits = width-small _ g.met.N.Number.width small }

pub put-here-requires : goal.put-here-requires
put-here-requires g c = end-room c.loop-row.invariant.3 (g.met.R.Rows.gives _ _ _ c.in-Some.ensures.steps) c.requires.rows_bound.1

pub loop-row-preserved : goal.loop-row-preserved
loop-row-preserved g c =
    let first = g.met.R.Rows.gives _ _ _ c.in-Some.ensures.steps in
    let on = c.in-Some.ensures.goes.on c.loop-row.invariant.1 in
    (on.0, on.1, among-others c.loop-row.invariant.2 first, turns c.loop-row.invariant.3 first (ap (c.loop-row.end +◌) c.size-end.ensures) (named c.put-here.ensures (ap (to_le _) c.low.ensures ∙ to_le-mod _ _)))

pub returns : goal.returns
returns g c = let both = ended c.loop-row.invariant.3 (g.met.R.Rows.gives _ _ _ c.in-None.ensures.steps).0 refl in record { wrote = both.0; sum_value = both.1 }
