-- One test, computed over a whole table, holds of each of its entries. Assumes nothing.
use Prim.Native.Nat.{ℕ, zero, suc, ◌+◌, ◌<◌}
use mathlib.Core.Bool.{Bool, true, false, ◌&&◌, false≢true}
use mathlib.Core.List.{List, [], ◌∷◌}
use mathlib.Core.Path.{◌≡◌, refl}
use native.Mathlib.Nat.{add-zero, zero-add}
use native.Mathlib.Omega.{arith}
use borrow.Author.Tests.{eqb-true}
use lib.Dec.{eqb}
use lib.ListN.{length, get_or}
use Rattle.bits.specs.Fours.{Table}

-- each entry is what f says of its place, counted from i
abbrev pub ruled : (ℕ → ℕ) → ℕ → List ℕ → Bool
ruled f i [] = true
ruled f i (x ∷ xs) = eqb x (f i) && ruled f (suc i) xs

both : (a b : Bool) → (a && b) ≡ true → (a ≡ true) × (b ≡ true)
both true b e = (refl, e)
both false b e = absurd (false≢true e)

entry-is : (f : ℕ → ℕ) (i : ℕ) (xs : List ℕ) → ruled f i xs ≡ true → (k : ℕ) → k < length xs → get_or xs k 0 ≡ f (i + k)
entry-is f i [] e k h = absurd (omega arith)
entry-is f i (x ∷ xs) e zero h = rw add-zero (eqb-true x (f i) (both (eqb x (f i)) _ e).0)
entry-is f i (x ∷ xs) e (suc k) h =
    let next : i + suc k ≡ suc i + k = omega arith in
    rw next (entry-is f (suc i) xs (both (eqb x (f i)) _ e).1 k (omega arith))

-- so the table has its rule
pub table-holds : (f : ℕ → ℕ) (t : List ℕ) → ruled f 0 t ≡ true → length t ≡ 256 → Table f t
table-holds f t e l = record { entry = λ k h. rw zero-add at (entry-is f 0 t e k (omega arith)) }
