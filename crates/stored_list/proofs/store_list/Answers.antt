-- `stored_list::store_list` meets its contract: a route's entries by its own writer; none and all store no entry. Assumes nothing.
use Rattle.std.proofs.Common.{refl}
use Rattle.format.proofs.Put.{none}
use mathlib.Core.Logic.{inl, inr}
use Rattle.stored_list.proofs.store_list.Goals as goal

-- the entries fit the list
pub store_runs-requires : goal.store_runs-requires
store_runs-requires c = (c.requires.0, rw c.in-Slices.is at c.requires.1)

pub store_rows-requires : goal.store_rows-requires
store_rows-requires c = (c.requires.0, rw c.in-Indices.is at c.requires.1)

pub returns-in-None : goal.returns-in-None
returns-in-None c = elim c.in-None.is [ inl e ↦ rw e (none refl refl) | inr e ↦ rw e (none refl refl) ]

pub returns-in-Slices : goal.returns-in-Slices
returns-in-Slices c = rw c.in-Slices.is c.store_runs.ensures

pub returns-in-Indices : goal.returns-in-Indices
returns-in-Indices c = rw c.in-Indices.is c.store_rows.ensures
