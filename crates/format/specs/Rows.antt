-- Rows as blocks give them to a column filter: those at the set bits of a word, and lists of rows below a length. Assumes nothing.
use Rattle.std.specs.Prelude.{ℕ, ◌<◌, List, [], ◌∷◌}
use Rattle.format.specs.Words.{low_bits, gather}
use Rattle.format.specs.Slots.{count_up}

-- the rows base + k for the set bits k of a word of 64 bits, rising
unfoldable pub set_rows : ℕ → ℕ → List ℕ
set_rows base x = gather (low_bits 64 x) (count_up 64 base)

-- every row of the list is below len
pub data Below (len : ℕ) : List ℕ → Type 0 where
  none : Below len []
  more : {r : ℕ} {rs : List ℕ} → r < len → Below len rs → Below len (r ∷ rs)
