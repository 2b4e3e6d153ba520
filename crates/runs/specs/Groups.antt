-- The rows of a selection grouped by runs, and the run ends of the groups that are not empty (docs/FORMAT.md, 8: kind 9). Assumes nothing.
use Rattle.std.specs.Prelude.{ℕ, zero, suc, ◌+◌, ◌*◌, ◌≤◌, ◌<◌, true, List, [], ◌∷◌, map, ◌≡◌, ltb, length}
use Rattle.format.specs.Bytes.{chosen, count_if, within, le}
use Rattle.format.specs.Verdict.{one_of}
use Rattle.format.specs.Write.{numbers, ends}

-- ---- runs by their ends, of w bytes each from `first` on

-- where run j ends, and where it starts: at the end before it, 0 for the first
unfoldable pub end_at : ℕ → List ℕ → ℕ → ℕ → ℕ
end_at w d first j = le w d (first + w * j)

unfoldable pub start_at : ℕ → List ℕ → ℕ → ℕ → ℕ
start_at w d first zero = 0
start_at w d first (suc j) = end_at w d first j

-- how many of the rows rs, counted after k skipped ones, lie in run j
unfoldable pub size_at : ℕ → List ℕ → ℕ → ℕ → List ℕ → ℕ → ℕ
size_at w d first k rs j = count_if (within k (start_at w d first j) (end_at w d first j)) rs

-- n run ends lie in the slice, and no run ends before it starts
pub record EndsLie (w : ℕ) (d : List ℕ) (first n : ℕ) : Type 0 where
  pub width : one_of (2 ∷ 4 ∷ 8 ∷ []) w ≡ true
  pub inside : first + w * n ≤ length d
  pub rising : (j : ℕ) → j < n → start_at w d first j ≤ end_at w d first j

-- ---- groups of g 0, g 1, .. rows

-- the sizes of the first n groups that are not empty
unfoldable pub sizes_below : (ℕ → ℕ) → ℕ → List ℕ
sizes_below g n = map g (chosen (λ j. ltb 0 (g j)) n)

-- and the running count at the end of each, in w bytes
unfoldable pub end_bytes : ℕ → (ℕ → ℕ) → ℕ → List ℕ
end_bytes w g n = numbers w (ends (sizes_below g n))
