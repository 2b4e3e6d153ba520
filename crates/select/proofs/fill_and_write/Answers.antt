-- `select::fill_and_write` meets its contract: the filled scratch is what the writer asks for, and it is cleared from end to end. Assumes nothing.
use mathlib.Core.Path.{refl, sym}
use native.Mathlib.Omega.{arith}
use Rattle.select.proofs.Selecting.{filled, cleared}
use Rattle.select.proofs.fill_and_write.Goals as goal

pub fill_all-places-requires : goal.fill_all-places-requires
fill_all-places-requires c = let r = c.requires.ready in record { known = r.known; room = omega (arith, r.needs) }

pub invariant_of-regions : goal.invariant_of-regions
invariant_of-regions c =
    let q = c.requires in
    record { known = q.ready.known; rooted = q.selects.0; sourced = q.selects.2; short = q.selects.1; filled = filled c.fill_all-places.ensures q.ready.needs c.args.counted.ready.sound }

pub returns : goal.returns
returns c = (c.write_extract.ensures, cleared c.fill_all-places.ensures c.requires.ready.needs refl c.clear.ensures)
