-- A buffer behind the body: absent, or padding and its bytes. Assumes nothing.
use Prim.Native.Nat.{ℕ, ◌+◌, ◌≤◌}
use mathlib.Core.Path.{◌≡◌, sym, ap, ◌∙◌}
use mathlib.Core.List.{List}
use native.Mathlib.Omega.{arith}
use lib.ListN.{length, length-append, length-replicate}
use Rattle.format.specs.Bytes.{raised}
use Rattle.format.specs.Put.{Wrote}
use Rattle.format.specs.Write.{Buffer, absent, holds}
use Rattle.format.proofs.Put.{none, then}
use Rattle.append.specs.Cells.{zeros, padding}
use Rattle.buffers.specs.Place.{appended, start_of, Puts}

-- nothing is put
pub puts_none : {rest at next : ℕ} {x : Buffer} {old : List ℕ} → x ≡ absent → next ≡ at → Puts rest x old at old (record { start = rest; next = next })
unfolding appended start_of
puts_none {rest} {at} e n = record { wrote = none (ap (appended at) e) n; starts = sym (ap (start_of rest at) e) }

-- the padding ends at the raised place
pub pad-ends : (at : ℕ) → at + length (padding at) ≡ raised at
unfolding padding zeros raised
pad-ends at = rw length-replicate (omega arith)

-- padding, then the bytes
pub puts-bytes : {rest at start next : ℕ} {x : Buffer} {old mid new bs : List ℕ} → x ≡ holds bs → Wrote old at (padding at) mid start → Wrote mid start bs new next
    → Puts rest x old at new (record { start = start; next = next })
unfolding appended start_of
puts-bytes {rest} {at} {start} e p w = record {
  wrote = rw (ap (appended at) e) (then p w);
  starts = p.place ∙ pad-ends at ∙ sym (ap (start_of rest at) e);
}

-- the padding and the bytes are all that is added
pub appended_size : (at : ℕ) (bs : List ℕ) → length (appended at (holds bs)) ≡ length (padding at) + length bs
unfolding appended
appended_size at bs = length-append (padding at) bs

-- there is room for the padding, and then for the bytes
module _ (at room : ℕ) {x : Buffer} {bs : List ℕ} (e : x ≡ holds bs) (fit : at + length (appended at x) ≤ room) where
  parts : at + length (padding at) + length bs ≤ room
  unfolding appended
  parts = let size = ap (λ (y : Buffer). length (appended at y)) e ∙ length-append (padding at) bs in omega arith

  pub pad-room : at + length (padding at) ≤ room
  pad-room = omega (arith, parts)

  pub bytes-room : (start : ℕ) → start ≡ at + length (padding at) → start + length bs ≤ room
  bytes-room start q = omega (arith, parts)
