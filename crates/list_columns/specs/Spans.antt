-- Rows of lists: how many child rows each valid row has, and none where the row is null; and what the rows must be within. Assumes nothing.
use Rattle.std.specs.Prelude.{◌≡◌, ℕ, ◌+◌, ◌^◌, ◌<◌, true, cond, List, [], ◌∷◌}
use Rattle.format.specs.Bytes.{sum_below, bit_in}
use Rattle.format.specs.Verdict.{one_of}
use Rattle.texts.specs.Texts.{offset, size, Offsets}

-- row r's child rows, by offsets of w bytes from `first` on and validity bits from bit `from` on
unfoldable pub span_at : ℕ → List ℕ → ℕ → ℕ → ℕ → ℕ
span_at w b first from r = cond (bit_in b (from + r)) (size (offset w b first) r) 0

-- the child rows of the valid rows before row r: offsets by which a row's size is `span_at`, so that the laws of `Texts` hold of them
unfoldable pub span_start : ℕ → List ℕ → ℕ → ℕ → ℕ → ℕ
span_start w b first from r = sum_below (span_at w b first from) r

-- the first n rows: their offsets lie in b, do not fall and are small, and so are the numbers of their bits
pub record Spans (w : ℕ) (b : List ℕ) (first from n : ℕ) : Type 0 where
  pub width : one_of (2 ∷ 4 ∷ 8 ∷ []) w ≡ true
  pub offsets : Offsets w b first n
  pub last : offset w b first n < 2 ^ 61
  pub small : from + n < 2 ^ 61
