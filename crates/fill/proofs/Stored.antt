-- Of packed tests of rows, one; and a front of zeros. Assumes nothing.
use Prim.Native.Nat.{ℕ, ◌≤◌, ◌<◌}
use mathlib.Core.Bool.{Bool}
use mathlib.Core.List.{List, ◌++◌}
use mathlib.Core.Path.{◌≡◌, ap, ◌∙◌}
use native.Mathlib.Omega.{arith}
use lib.ListN.{length, replicate, take, drop, length-replicate}
use lib.Seq.{length-take-le}
use Rattle.format.specs.Bytes.{bit_in, packed, over}
use Rattle.format.specs.Slots.{slots_from}
use Rattle.format.proofs.PackedLaws.{bit-packed}
use Rattle.marks.proofs.Stored.{get_or-slots}

-- of packed tests of rows, one
pub bit-rows : (p : ℕ → Bool) (n j : ℕ) → j < n → bit_in (packed (slots_from p n 0)) j ≡ p j
bit-rows p n j h = bit-packed (slots_from p n 0) j ∙ get_or-slots p n 0 j h ∙ ap p (omega arith)

pub zeros-over : (n : ℕ) (old : List ℕ) {zs : List ℕ} → n ≤ length old → zs ≡ replicate (length (take n old)) 0 → zs ++ drop n old ≡ over (replicate n 0) old
unfolding over
zeros-over n old h e = rw (e, length-take-le n old h, length-replicate {A = ℕ} n 0)
