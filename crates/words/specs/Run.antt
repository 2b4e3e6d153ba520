-- The lowest run of set bits of a word, taken off. Assumes nothing.
use Rattle.std.specs.Prelude.{◌≡◌, ℕ, ◌+◌, ◌-◌, ◌<◌, ◌≤◌, ◌++◌, Option, MatchOption}
use Rattle.format.specs.Rows.{set_rows}
use Rattle.format.specs.Slots.{count_up}

-- the rows base + k for the lowest run of set bits k of a word: [from, to); `rest` is the word without them
pub record LowestRun (base word from to rest : ℕ) : Type 0 where
  pub low : base ≤ from
  pub filled : from < to
  pub high : to ≤ base + 64
  pub less : rest < word
  pub rows : set_rows base word ≡ count_up (to - from) from ++ set_rows base rest

-- what taking a run off a word gives: the lowest run, or nothing of a word with no set bit
abbrev pub TakesRun : ℕ → ℕ → Option (ℕ × ℕ) → ℕ → ℕ → Type 0
TakesRun base word taken base' rest =
    (base' ≡ base) × MatchOption taken ((word ≡ 0) × (rest ≡ 0)) (λ run. LowestRun base word run.0 run.1 rest)
