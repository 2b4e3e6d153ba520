-- A part of a buffer written whole; the same byte many times; of the tests of slots, one, and how long they are packed. Assumes nothing.
use Prim.Native.Nat.{ℕ, zero, suc, ◌+◌, ◌-◌, ◌≤◌, ◌<◌}
use mathlib.Core.Bool.{Bool, false}
use mathlib.Core.List.{List, [], ◌∷◌, ◌++◌, append_assoc, append-nil}
use mathlib.Core.Path.{◌≡◌, sym, ap, ◌∙◌}
use native.Mathlib.Nat.{add-zero, add-suc, suc-add}
use native.Mathlib.Omega.{arith}
use lib.ListN.{length, get_or, replicate, take, drop, length-replicate, length-take, length-drop}
use borrow.Rule.Slice.PartMut.{put_mid}
use lib.Seq.{drop-drop, drop-length}
use Rattle.format.specs.Bytes.{bytes_for, packed, over}
use Rattle.format.specs.Slots.{slots_from}
use Rattle.format.specs.Put.{Wrote}
use Rattle.format.proofs.Measure.{length-packed}
use Rattle.format.proofs.Put.{put-parts, put_front}
use Rattle.format.proofs.SlotLaws.{length-slots}

-- a part of a buffer written whole
pub part-wrote : {old ys bs : List ℕ} (at size : ℕ) {next : ℕ} → ys ≡ bs → length bs ≡ size → at + size ≤ length old → next ≡ at + size → Wrote old at bs (take at old ++ (ys ++ drop size (drop at old))) next
part-wrote {old} {ys} {bs} at size same e fit n =
    record {
      bytes = rw (same, drop-drop size at old, ← e) (sym (append_assoc (take at old) bs _) ∙ sym (put-parts old at bs (omega arith)));
      place = omega arith;
    }

-- all of a buffer filled with one byte
pub filled-wrote : {old new : List ℕ} (x : ℕ) → new ≡ replicate (length old) x → Wrote old 0 (replicate (length old) x) new (length old)
unfolding over
filled-wrote {old} {new} x e =
    let long : length (replicate (length old) x) ≡ length old = length-replicate (length old) x in
    record {
      bytes = e ∙ sym (put_front old (replicate (length old) x) (omega arith) ∙ rw (long, drop-length old) (append-nil _));
      place = omega (arith, length-replicate (length old) x);
    }

-- a part of it
pub part-filled : (old : List ℕ) (from to x : ℕ) {ys : List ℕ} → from ≤ to → to ≤ length old → ys ≡ replicate (length (take (to - from) (drop from old))) x
    → Wrote old from (replicate (to - from) x) (put_mid from (to - from) old ys) to
part-filled old from to x {ys} l h e =
    let long : length (take (to - from) (drop from old)) ≡ to - from = simp (length-take, length-drop) (omega arith) in
    let same : ys ≡ replicate (to - from) x = e ∙ ap (λ (n : ℕ). replicate n x) long in
    part-wrote from (to - from) same (length-replicate (to - from) x) (omega arith) (omega arith)

-- ---- the same byte many times, of which those from j on are left

pub same_next : (x n j : ℕ) → j < n → ◌≡◌ {A = List ℕ} (replicate (n - j) x) (x ∷ replicate (n - (j + 1)) x)
same_next x n j h = let e : n - j ≡ suc (n - (j + 1)) = omega arith in rw e

pub same_none : (x n j : ℕ) → n ≤ j → ◌≡◌ {A = List ℕ} (replicate (n - j) x) []
same_none x n j h = let e : n - j ≡ 0 = omega arith in rw e

-- ---- the tests of slots: one by one, and packed

pub get_or-slots : (p : ℕ → Bool) (n i j : ℕ) → j < n → get_or (slots_from p n i) j false ≡ p (i + j)
unfolding slots_from
get_or-slots p zero i j h = absurd (omega arith)
get_or-slots p (suc n) i zero h = ap p (sym (add-zero i))
get_or-slots p (suc n) i (suc j) h = get_or-slots p n (suc i) j (omega arith) ∙ rw (suc-add, add-suc)

pub length-rows : (p : ℕ → Bool) (n : ℕ) → length (packed (slots_from p n 0)) ≡ bytes_for n
length-rows p n = length-packed (slots_from p n 0) ∙ ap bytes_for (length-slots p n 0)
