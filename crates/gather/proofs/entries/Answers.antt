-- `gather::entries` meets its contract. A turn takes the first of the rows that are left, and writes its entry. Assumes nothing.
use Rattle.std.proofs.Common.{refl}
use Rattle.append.proofs.CellLaws.{rows-all, entries-number, entries_none, entry-needs, entry_more, rows-done}
use Rattle.gather.proofs.entries.Goals as goal

pub loop-row-init-derived : goal.loop-row-init-derived
loop-row-init-derived g c = rw c.into_iter-row-iterator.ensures.into_iter_gives (g.met.R.Rows.can _ (entries-number c.requires.among), g.met.R.Rows.ends _)

pub loop-row-init : goal.loop-row-init
loop-row-init g c =
    rw c.into_iter-row-iterator.ensures.into_iter_gives
    (g.met.R.Rows.can _ (entries-number c.requires.among), g.met.R.Rows.ends _, rows-all c.requires.among refl)

pub copy-here-requires : goal.copy-here-requires
copy-here-requires g c = rw c.bytes.ensures (entry-needs c.loop-row.invariant.2 (g.met.R.Rows.gives _ _ _ c.in-Some.ensures.steps) c.requires.rows_in_bounds)

pub loop-row-preserved : goal.loop-row-preserved
loop-row-preserved g c =
    let on = c.in-Some.ensures.goes.on c.loop-row.invariant.1 in
    (on.0, on.1, entry_more c.loop-row.invariant.2 (g.met.R.Rows.gives _ _ _ c.in-Some.ensures.steps) (rw c.bytes.ensures at c.copy-here.ensures))

pub returns : goal.returns
returns g c = rows-done c.loop-row.invariant.2 (entries_none _ _ _ _ (g.met.R.Rows.gives _ _ _ c.in-None.ensures.steps).0)
