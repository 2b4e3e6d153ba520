-- What lies between the offsets of rows: how many bytes or child rows they have, read off a buffer of offsets. Assumes nothing.
use Rattle.std.specs.Prelude.{ℕ, suc, ◌+◌, ◌-◌, ◌*◌, ◌^◌, ◌≤◌, ◌<◌, List, [], ◌∷◌, length}
use Rattle.format.specs.Bytes.{le}
use Rattle.format.specs.Node.{skip, first_at}
use Rattle.format.specs.Rows.{Below}

-- row r's offset, of w bytes, where row 0's stands at `first`
unfoldable pub offset_from : ℕ → List ℕ → ℕ → ℕ → ℕ
offset_from w b first r = le w b (first + w * r)

-- where row 0's offset of list node i stands, of w bytes: behind those of skipped rows
abbrev pub first_offset : List ℕ → ℕ → ℕ → ℕ
first_offset b w i = first_at b i + w * skip b i

-- from each row's offset to the next, for all rows of a list
unfoldable pub spans : (ℕ → ℕ) → List ℕ → ℕ
spans o [] = 0
spans o (r ∷ rs) = o (suc r) - o r + spans o rs

-- offsets that do not fall before n
pub record Rises (o : ℕ → ℕ) (n : ℕ) : Type 0 where
  pub next : (r : ℕ) → r < n → o r ≤ o (suc r)

-- such offsets, of which the last, that of n, fits
pub record Mounts (o : ℕ → ℕ) (n : ℕ) : Type 0 where
  pub up : Rises o n
  pub fits : o n < 2 ^ 64

-- the rows are among the first len, whose offsets lie in b and do not fall
pub record Rising (w : ℕ) (b : List ℕ) (first : ℕ) (rs : List ℕ) : Type 0 where
  pub len : ℕ
  pub small : len < 2 ^ 64
  pub below : Below len rs
  pub inside : first + w * suc len ≤ length b
  pub next : (r : ℕ) → r < len → offset_from w b first r ≤ offset_from w b first (suc r)
