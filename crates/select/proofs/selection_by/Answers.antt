-- `select::selection_by` meets its contract: a list of the route that each arm knows has its entries. Assumes nothing.
use Rattle.std.proofs.Common.{refl}
use Rattle.select.proofs.selection_by.Goals as goal

pub returns-in-Slices : goal.returns-in-Slices
returns-in-Slices c = rw c.in-Slices.is (_, refl, refl, refl, refl)

pub returns-in-Indices : goal.returns-in-Indices
returns-in-Indices c = rw c.in-Indices.is (_, refl, refl, refl, refl)
