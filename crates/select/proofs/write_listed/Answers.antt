-- `select::write_listed` meets its contract: the list cut to its entries is a selection of the picked rows. Assumes nothing.
use native.Mathlib.Omega.{arith}
use Rattle.format.proofs.Put.{wrote-front}
use Rattle.nesting.proofs.ByKind.{rows-small}
use Rattle.predicate.proofs.Holding.{reach-of, sourced-of}
use Rattle.stored_list.proofs.Cut.{cut}
use Rattle.select.proofs.Selecting.{selects}
use Rattle.select.proofs.write_listed.Goals as goal

pub store_list-n-requires : goal.store_list-n-requires
store_list-n-requires c =
    let s = c.args.counted.ready.sound in
    (omega (arith, c.requires.ready.long, rows-small s 0 s.shape.some), c.requires.room)

pub selection_by-sel-requires : goal.selection_by-sel-requires
selection_by-sel-requires c = cut c.store_list-n.ensures c.requires.room

pub fill_and_write-requires : goal.fill_and_write-requires
fill_and_write-requires c =
    let q = c.requires in
    let h = c.selection_by-sel.ensures in
    record { selects = (selects q.goes _ _ h, omega (arith, reach-of _ _ _ _ h, q.ready.long), sourced-of _ _ _ _ h); ready = q.ready }

pub returns : goal.returns
returns c = let w = c.fill_and_write.ensures in (w.0, w.1, wrote-front c.store_list-n.ensures c.requires.room)
