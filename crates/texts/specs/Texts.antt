-- Rows with own bytes, one row after another: their offsets, sizes and bytes, and where they end; and what the rows must be within. Assumes nothing.
use Rattle.std.specs.Prelude.{◌≡◌, ℕ, suc, ◌+◌, ◌-◌, ◌*◌, ◌<◌, ◌≤◌, ◌⊎◌, List, [], ◌∷◌, map, length}
use Rattle.format.specs.Bytes.{join, le, bytes_at}
use Rattle.format.specs.Write.{total}

-- row r's offset, of w bytes: where its own bytes start
unfoldable pub offset : ℕ → List ℕ → ℕ → ℕ → ℕ
offset w b first r = le w b (first + w * r)

-- where row r's own bytes start, in data of entries of u bytes (a byte column's have 1, a list's are those of its child)
unfoldable pub start_in : ℕ → ℕ → List ℕ → ℕ → ℕ → ℕ
start_in u w b first r = u * offset w b first r

-- how many own bytes each row has, where row r's are from offset o r up to o (suc r)
unfoldable pub size : (ℕ → ℕ) → ℕ → ℕ
size o r = o (suc r) - o r

unfoldable pub sizes_of : (ℕ → ℕ) → List ℕ → List ℕ
sizes_of o rs = map (size o) rs

-- those bytes, of data at `start`
unfoldable pub text : (ℕ → ℕ) → List ℕ → ℕ → ℕ → List ℕ
text o b start r = bytes_at b (start + o r) (size o r)

unfoldable pub texts_of : (ℕ → ℕ) → List ℕ → ℕ → List ℕ → List ℕ
texts_of o b start rs = join (map (text o b start) rs)

-- where rows of these sizes end, if the first starts at s
unfoldable pub ends_from : ℕ → List ℕ → List ℕ
ends_from s [] = []
ends_from s (n ∷ ns) = (s + n) ∷ ends_from (s + n) ns

-- the sum of all sizes
unfoldable pub total_of : List ℕ → ℕ
total_of sizes = total sizes (length sizes)

-- the offsets of the first n rows and the one behind them lie in b, and do not fall
pub record Offsets (w : ℕ) (b : List ℕ) (first n : ℕ) : Type 0 where
  pub inside : first + w * suc n ≤ length b
  pub rising : (r : ℕ) → r < n → offset w b first r ≤ offset w b first (suc r)

-- so do the rows' own bytes, of data of entries of u bytes at `start`; offsets have 4 or 8 bytes
pub record Texts (u w : ℕ) (b : List ℕ) (first start n : ℕ) : Type 0 where
  pub width : (w ≡ 4) ⊎ (w ≡ 8)
  pub offsets : Offsets w b first n
  pub within : start + start_in u w b first n ≤ length b
