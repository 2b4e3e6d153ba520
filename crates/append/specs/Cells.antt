-- The bytes of rows, one row after another: entries of a width; zeros; and what the rows must be within. Assumes nothing.
use Rattle.std.specs.Prelude.{ℕ, ◌+◌, ◌-◌, ◌*◌, ◌^◌, ◌≤◌, ◌<◌, List, [], ◌∷◌, ◌++◌, map, length, replicate}
use Rattle.format.specs.Bytes.{join, bytes_at, raised}
use Rattle.format.specs.Rows.{set_rows, Below}

-- n zeros, and those that raise a place to a multiple of 8
unfoldable pub zeros : ℕ → List ℕ
zeros n = replicate n 0

unfoldable pub padding : ℕ → List ℕ
padding at = zeros (raised at - at)

-- the w bytes of row r in a buffer whose row 0 stands at `first` (a node's skip is in `first`)
unfoldable pub entry : ℕ → List ℕ → ℕ → ℕ → List ℕ
entry w b first r = bytes_at b (first + w * r) w

-- the entries of rows
unfoldable pub entries_of : ℕ → List ℕ → ℕ → List ℕ → List ℕ
entries_of w b first rs = join (map (entry w b first) rs)

-- the rows at the set bits of words that follow each other, 64 rows each
unfoldable pub word_rows : ℕ → List ℕ → List ℕ
word_rows base [] = []
word_rows base (x ∷ xs) = set_rows base x ++ word_rows (base + 64) xs

-- the rows are among the first so many rows, of which P holds
pub record Among (P : ℕ → Type 0) (rs : List ℕ) : Type 0 where
  pub len : ℕ
  pub below : Below len rs
  pub holds : P len

-- the entries of the first n rows lie in b (small: an entry may have no bytes)
pub record Entries (w : ℕ) (b : List ℕ) (first n : ℕ) : Type 0 where
  pub small : n < 2 ^ 64
  pub inside : first + w * n ≤ length b
