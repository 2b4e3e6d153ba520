-- Bits set in bytes: what a test says of each bit, OR-ed into them. Assumes nothing.
use Rattle.std.specs.Prelude.{ℕ, ◌*◌, Bool, List, ◌++◌, ◌≡◌, length, get_or, take, drop}
use Rattle.std.specs.Int.Bits.{bit_or}
use Rattle.format.specs.Slots.{word_from}

-- the bits that pass the test are set, and all others are as they were: of each byte its eight, the first lowest
pub record Marked (t : ℕ → Bool) (old new : List ℕ) : Type 0 where
  pub size : length new ≡ length old
  pub bytes : (j : ℕ) → get_or new j 0 ≡ bit_or (get_or old j 0) (word_from t 8 (8 * j))

-- the bits of `size` bytes from byte `at` on that pass the test are set, counted from there, and all other bytes are as they were
pub record MarkedPart (t : ℕ → Bool) (at size : ℕ) (old new : List ℕ) : Type 0 where
  pub part : List ℕ
  pub marked : Marked t (take size (drop at old)) part
  pub whole : new ≡ take at old ++ (part ++ drop size (drop at old))
