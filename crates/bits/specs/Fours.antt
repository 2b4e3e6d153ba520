-- The tables of compress: a number for each mask and value of four bits. Assumes nothing.
use Rattle.std.specs.Prelude.{ℕ, ◌/◌, ◌%◌, ◌<◌, List, ◌≡◌, get_or}
use Rattle.std.specs.Int.Count.{ones}
use Rattle.format.specs.Words.{compress}

-- at mask × 16 + value, the value compressed by the mask ("each entry is its value compressed by its mask")
abbrev pub four_of : ℕ → ℕ
four_of k = compress 4 (k % 16) (k / 16)

-- and how many bits that is: as many as the mask has
abbrev pub count_of : ℕ → ℕ
count_of k = ones (k / 16)

-- a table's rule: f says what its entry at each of 256 places is
pub record Table (f : ℕ → ℕ) (t : List ℕ) : Type 0 where
  pub entry : (k : ℕ) → k < 256 → get_or t k 0 ≡ f k
