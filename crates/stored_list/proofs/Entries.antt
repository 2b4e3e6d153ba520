-- How many entries a list of runs has.
use Rattle.std.proofs.Common.{◌≡◌, ℕ, ◌*◌, List, [], ◌∷◌, length, refl, arith}
use Rattle.format.specs.Slots.{starts_and_ends}

pub length-edges : (rs : List (ℕ × ℕ)) → length (starts_and_ends rs) ≡ 2 * length rs
unfolding starts_and_ends
length-edges [] = refl
length-edges (r ∷ rs) = let e = length-edges rs in omega arith
