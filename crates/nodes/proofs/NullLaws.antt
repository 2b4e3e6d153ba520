-- The bitmap of a node's kept rows: there is one where a row is null, its bits are those that stand in the journal, and by them the rows that are null are counted. Assumes nothing.
use Prim.Native.Nat.{ℕ, ◌+◌, ◌*◌, ◌/◌, ◌≤◌}
use mathlib.Core.Path.{◌≡◌, refl, sym, ap, ap₂, ◌∙◌}
use mathlib.Core.Bool.{Bool, true, false, not, true≢false}
use mathlib.Core.List.{List, [], ◌∷◌, map}
use native.Mathlib.Nat.{zero-add, add_assoc}
use native.Mathlib.Omega.{arith}
use lib.ListN.{length, length-map}
use Rattle.format.specs.Bytes.{chosen, bit_in, bit_at, bytes_for, packed}
use Rattle.format.specs.Node.{skip, validity_at, has_no_bitmap, valid}
use Rattle.format.specs.Put.{Wrote}
use Rattle.format.specs.Write.{absent, holds, nulls, any_null, bitmap}
use Rattle.format.proofs.Measure.{length-packed}
use Rattle.format.proofs.NullLaws.{count-nulls}
use Rattle.format.proofs.PackedLaws.{bit-packed}
use Rattle.format.proofs.Put.{bit-put}
use Rattle.bitmaps.specs.Push.{bit_from}
use Rattle.pack.specs.Read.{node_of}
use Rattle.pack.specs.declared.Node.{Node}

-- a null row shows that there is a bitmap
pub all_valid : (b : List ℕ) (i : ℕ) (rs : List ℕ) → has_no_bitmap b i ≡ true → any_null (map (valid b i) rs) ≡ false
unfolding any_null valid
all_valid b i [] h = refl
all_valid b i (r ∷ rs) h = rw h (all_valid b i rs h)

pub null-marked : (b : List ℕ) (i : ℕ) (rs : List ℕ) → any_null (map (valid b i) rs) ≡ true → has_no_bitmap b i ≡ false
null-marked b i rs h = go (has_no_bitmap b i) refl
  where
    go : (t : Bool) → has_no_bitmap b i ≡ t → t ≡ false
    go true e = absurd (true≢false (sym h ∙ all_valid b i rs e))
    go false e = refl

-- the bits of a bitmap are those of the values that stand there
pub map_same : (f g : ℕ → Bool) (rs : List ℕ) → ((r : ℕ) → f r ≡ g r) → map f rs ≡ map g rs
map_same f g [] h = refl
map_same f g (r ∷ rs) h = ap₂ ◌∷◌ (h r) (map_same f g rs h)

pub marks-are : (b : List ℕ) (i : ℕ) (rs : List ℕ) → has_no_bitmap b i ≡ false → map (valid b i) rs ≡ map (bit_from b (8 * validity_at b i + skip b i)) rs
unfolding valid bit_at bit_from
marks-are b i rs h = map_same (valid b i) (bit_from b (8 * validity_at b i + skip b i)) rs (λ r. rw (h, add_assoc))

-- the bitmap of marks with a null, and of marks without
pub bitmap-null : (vs : List Bool) → any_null vs ≡ true → bitmap vs ≡ holds (packed vs)
unfolding bitmap
bitmap-null vs h = rw h

pub bitmap-none : (vs : List Bool) → any_null vs ≡ false → bitmap vs ≡ absent
unfolding bitmap
bitmap-none vs h = rw h

-- marks with a null as the code reads them, row 0 at bit `from`
module _ (b : List ℕ) (i : ℕ) (rs : List ℕ) (from : ℕ) (h : any_null (map (valid b i) rs) ≡ true) (e : from ≡ 8 * validity_at b i + skip b i) where
  same-marks : map (valid b i) rs ≡ map (bit_from b from) rs
  same-marks = marks-are b i rs (null-marked b i rs h) ∙ rw e

  pub null-bitmap : bitmap (map (valid b i) rs) ≡ holds (packed (map (bit_from b from) rs))
  null-bitmap = bitmap-null (map (valid b i) rs) h ∙ ap (λ (vs : List Bool). holds (packed vs)) same-marks

  -- written at a place, they lie in the output, and as many of their bits are not set as rows are null
  module _ (mid : List ℕ) (start n : ℕ) (fit : start + length (packed (map (bit_from b from) rs)) ≤ length mid) (count : n ≡ length rs) where
    sizes : (length (map (bit_from b from) rs) ≡ n) × (start + (n + 7) / 8 ≤ length mid)
    unfolding bytes_for
    sizes =
        let l : length (map (bit_from b from) rs) ≡ n = length-map rs (bit_from b from) ∙ sym count in
        (l, rw (length-packed (map (bit_from b from) rs), l) at fit)

    pub bits-lie : 8 * start + (0 + n) ≤ 8 * length mid
    bits-lie = omega (arith, sizes.1)

    pub bits-null : {new : List ℕ} {next : ℕ} → Wrote mid start (packed (map (bit_from b from) rs)) new next
        → length (chosen (λ k. not (bit_at new start (0 + k))) n) ≡ nulls (map (valid b i) rs)
    unfolding bit_at bytes_for
    bits-null {new} w =
        let vs : List Bool = map (bit_from b from) rs in
        rw (same-marks, ← sizes.0)
        (count-nulls vs (λ k. bit_in new (8 * start + (0 + k)))
        (λ r l. rw (w.bytes, zero-add) (bit-put mid start (packed vs) r (omega (arith, length-packed vs)) fit ∙ bit-packed vs r)))

pub from_is : (b : List ℕ) (i : ℕ) (node : Node) → node ≡ node_of b i → 8 * node.validity_at + node.skip ≡ 8 * validity_at b i + skip b i
from_is b i node e = rw e
