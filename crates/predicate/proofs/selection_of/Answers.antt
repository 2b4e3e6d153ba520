-- `predicate::selection_of` meets its contract: a list of the route that each arm knows has its entries. Assumes nothing.
use Rattle.std.proofs.Common.{refl}
use Rattle.predicate.proofs.selection_of.Goals as goal

pub returns-in-Slices : goal.returns-in-Slices
returns-in-Slices c = rw (c.in-Some.is, c.in-Slices.is) (_, refl, refl, refl, refl)

pub returns-in-Indices : goal.returns-in-Indices
returns-in-Indices c = rw (c.in-Some.is, c.in-Indices.is) (_, refl, refl, refl, refl)
