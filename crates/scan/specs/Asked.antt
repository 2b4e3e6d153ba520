-- What is asked of a bit source's slots: words of ones, whether any slot of a range passes, and the first run. Assumes nothing.
use Rattle.std.specs.Prelude.{ℕ, ◌+◌, ◌-◌, ◌*◌, ◌<◌, ◌≤◌, Bool, true, false, List, [], ◌∷◌, Option, Some, None, MatchOption, ◌≡◌}
use Rattle.format.specs.Bytes.{any_below}
use Rattle.format.specs.Slots.{All}

-- the words from `from` up to r are of ones, and slots are left after them
pub record Ones (p : ℕ → Bool) (from len r : ℕ) : Type 0 where
  pub low : from ≤ r
  pub high : 64 * r < len
  pub all : All p true (64 * from) (64 * r)

-- no slot of the words from `from` up to r passes, and where words are passed slots are left after them
pub record Blank (p : ℕ → Bool) (from len r : ℕ) : Type 0 where
  pub low : from ≤ r
  pub high : 64 * r ≤ 64 * from + (len - 64 * from - 1)
  pub all : All p false (64 * from) (64 * r)

-- some slot of [lo, hi) passes
abbrev pub any_in : (ℕ → Bool) → ℕ → ℕ → Bool
any_in p lo hi = any_below (λ k. p (lo + k)) (hi - lo)

-- the first slot of [from, end) that passes, or none
abbrev pub Picked : (ℕ → Bool) → ℕ → ℕ → Option ℕ → Type 0
Picked p from end r = MatchOption r (All p false from end) (λ k. (from ≤ k) × (k < end) × All p false from k × (p k ≡ true))

-- the first of a list of runs, as a scan's answer
abbrev pub first_run : List (ℕ × ℕ) → Option (ℕ × ℕ)
first_run [] = None
first_run (r ∷ rs) = Some r
