-- How every writer's contract speaks of its output: the bytes stored from a place on, and the next place. Assumes nothing.
use Rattle.std.specs.Prelude.{◌≡◌, ℕ, suc, ◌+◌, List, [], ◌∷◌, length, slice_set}

-- `old` with the bytes `bs` stored one after another from place `at` on; where they fit, `take at old ++ bs ++ drop (at + length bs) old`
unfoldable pub put : List ℕ → ℕ → List ℕ → List ℕ
put old at [] = old
put old at (b ∷ bs) = put (slice_set old at b) (suc at) bs

-- a writer took the output from `old` to `new` by writing `bs` at `at`, and the next place is `next`
pub record Wrote (old : List ℕ) (at : ℕ) (bs new : List ℕ) (next : ℕ) : Type 0 where
  pub bytes : new ≡ put old at bs
  pub place : next ≡ at + length bs
