-- The offsets of a list by the place of its row 0's. Assumes nothing.
use Prim.Native.Nat.{ℕ}
use mathlib.Core.List.{List}
use mathlib.Core.Path.{◌≡◌, refl}
use Rattle.format.specs.Node.{first_number}
use Rattle.nesting.specs.Rows.{AtList}
use Rattle.nesting.proofs.ListAt.{start-read}
use Rattle.spans.specs.Spans.{first_offset, offset_from}

pub offset-is : {b : List ℕ} {w i : ℕ} → AtList b w i → (first : ℕ) → first ≡ first_offset b w i → (r : ℕ) → offset_from w b first r ≡ first_number w b i r
unfolding offset_from
offset-is a first e r = start-read a e r refl
