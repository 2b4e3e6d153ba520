-- `columns::from_mask::pass_runs` meets its contract: the rows up to `place` are written; a turn writes a run's. Assumes nothing.
use mathlib.Core.Path.{refl}
use native.Mathlib.Omega.{arith}
use Rattle.append.proofs.CellLaws.{run_fits}
use Rattle.columns.proofs.EntryWalk.{entries-cut}
use Rattle.columns.proofs.Passing.{pass-nothing, pass-none, run_room, run_more}
use Rattle.columns.proofs.from_mask.pass_runs.Goals as goal

pub returns-in_default : goal.returns-in_default
returns-in_default c = pass-nothing (entries-cut _ _ _)

pub loop-place-init : goal.loop-place-init
loop-place-init c = pass-none (entries-cut _ _ _) refl (rw c.in-Words.is at c.requires.inside)

pub copy_rows-here-requires : goal.copy_rows-here-requires
copy_rows-here-requires c =
    let r = c.in-Some.ensures in
    let some = r.some in
    (omega arith, run_fits _ r.high (rw c.in-Words.is at c.requires.entries), run_room (entries-cut _ _ _) c.loop-place.invariant r (rw c.in-Words.is at c.requires.place_in_bounds))

pub loop-place-preserved : goal.loop-place-preserved
loop-place-preserved c = run_more (entries-cut _ _ _) c.loop-place.invariant c.in-Some.ensures c.copy_rows-here.ensures
