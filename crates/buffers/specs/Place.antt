-- Where a buffer of kept rows is put, from the place where the body ends (docs/FORMAT.md, 8). Assumes nothing.
use Rattle.std.specs.Prelude.{ℕ, ◌+◌, List, [], ◌++◌, ◌≡◌, length}
use Rattle.format.specs.Bytes.{raised}
use Rattle.format.specs.Put.{Wrote}
use Rattle.format.specs.Write.{Buffer, absent, holds}
use Rattle.append.specs.Cells.{padding}
use Rattle.buffers.specs.declared.Placed.{Placed}

-- what a buffer adds to a body that ends at a place
unfoldable pub appended : ℕ → Buffer → List ℕ
appended at absent = []
appended at (holds x) = padding at ++ x

-- where the body ends after a buffer
unfoldable pub ending : ℕ → Buffer → ℕ
ending at x = at + length (appended at x)

-- where a buffer starts; an absent one has a resting value
unfoldable pub start_of : ℕ → ℕ → Buffer → ℕ
start_of rest at absent = rest
start_of rest at (holds x) = raised at

-- a buffer is put behind the place where the body ends: its bytes and its start
pub record Puts (rest : ℕ) (x : Buffer) (old : List ℕ) (at : ℕ) (new : List ℕ) (r : Placed) : Type 0 where
  pub wrote : Wrote old at (appended at x) new r.next
  pub starts : r.start ≡ start_of rest at x
