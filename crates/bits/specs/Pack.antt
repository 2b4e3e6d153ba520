-- What a push does to the bits that wait, fewer than 64 of them, and to those that come behind them. Assumes nothing.
use Rattle.std.specs.Prelude.{ℕ, Bool, cond, List, [], ltb, length, take, drop, Option, None, Some}
use Rattle.format.specs.Words.{low_bits, word_of}

-- fewer than 64 bits all wait; else the first 64 are handed back as a word, and the others wait
unfoldable pub packing : List Bool → List Bool × Option ℕ
packing ts = cond (ltb (length ts) 64) (ts, None) (drop 64 ts, Some (word_of (take 64 ts)))

-- the bits handed back
abbrev pub handed : Option ℕ → List Bool
handed None = []
handed (Some w) = low_bits 64 w
