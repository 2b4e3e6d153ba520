-- The sizes of list rows as offsets of their own: what the writer of a row and of each form of block asks. Assumes nothing.
use Rattle.std.proofs.Common.{◌≡◌, ℕ, zero, suc, ◌+◌, ◌-◌, ◌*◌, ◌^◌, ◌<◌, ◌≤◌, Bool, true, false, cond, List, ◌∷◌, sym, ◌∙◌, le_refl, arith}
use Rattle.format.specs.Bytes.{sum_below, bit_in, le}
use Rattle.format.specs.Rows.{Below}
use Rattle.format.proofs.RowLaws.{below_wider}
use Rattle.format.proofs.SlotLaws.{chosen-picks}
use Rattle.predicate.specs.declared.Selection.{Selection}
use Rattle.predicate.specs.Selection.{reach, selected}
use Rattle.predicate.specs.Blocks.{kept_by}
use Rattle.text_columns.proofs.Blocks.{selected-kept}
use Rattle.append.specs.Cells.{Among}
use Rattle.append.proofs.CellLaws.{among_first}
use Rattle.texts.specs.Texts.{offset, size, sizes_of, total_of}
use Rattle.texts.proofs.TextLaws.{Rises, rises, risen, offsets-fewer, offset-next}
use Rattle.texts.proofs.NodeLaws.{total-chosen}
use Rattle.list_columns.specs.Spans.{span_at, span_start, Spans}

module _ (w : ℕ) (b : List ℕ) (first from : ℕ) where
  -- by those offsets a row's size is its own
  pub start-size : (r : ℕ) → size (span_start w b first from) r ≡ span_at w b first from r
  unfolding size span_start sum_below
  start-size r = omega arith

  pub size-null : (r : ℕ) → bit_in b (from + r) ≡ false → size (span_start w b first from) r ≡ 0
  unfolding span_at
  size-null r e = start-size r ∙ rw e

  pub size-valid : (r : ℕ) → bit_in b (from + r) ≡ true → size (span_start w b first from) r ≡ offset w b first (suc r) - offset w b first r
  unfolding span_at size
  size-valid r e = start-size r ∙ rw e

  -- they rise, and not above the offsets themselves
  pub start-rises : (n : ℕ) → Rises (span_start w b first from) n
  unfolding span_start sum_below
  start-rises n = record { next = λ r l. omega arith }

  span-within : (n : ℕ) → span_at w b first from n ≤ offset w b first (suc n) - offset w b first n
  unfolding span_at size
  span-within n = go (bit_in b (from + n))
    where
      go : (t : Bool) → cond t (offset w b first (suc n) - offset w b first n) 0 ≤ offset w b first (suc n) - offset w b first n
      go true = le_refl _
      go false = omega arith

  pub start-within : (n : ℕ) → Rises (offset w b first) n → span_start w b first from n ≤ offset w b first n
  unfolding span_start sum_below
  start-within zero up = omega arith
  start-within (suc n) up = omega (arith, span-within n, up.next n (le_refl (suc n)), start-within n (record { next = λ r l. up.next r (omega arith) }))

-- the numbers that the code reads at a row
module _ {w : ℕ} {b : List ℕ} {first from row : ℕ} (h : Spans w b first from (suc row)) {low high : ℕ} (l : low ≡ le w b (first + w * row)) (g : high ≡ le w b (first + w * row + w)) where
  low-is : low ≡ offset w b first row
  unfolding offset
  low-is = l

  high_is : high ≡ offset w b first (suc row)
  high_is = g ∙ offset-next w b first row

  pub span-order : low ≤ high
  span-order = rw (low-is, high_is) (h.offsets.rising row (le_refl (suc row)))

  pub span-is : bit_in b (from + row) ≡ true → high - low ≡ size (span_start w b first from) row
  span-is e = rw (low-is, high_is) (sym (size-valid w b first from row e))

-- fewer rows, and one of them
pub spans-fewer : {w : ℕ} {b : List ℕ} {first from n : ℕ} (m : ℕ) → m ≤ n → Spans w b first from n → Spans w b first from m
spans-fewer {w} {b} {first} {from} {n} m l h = record {
  width = h.width;
  offsets = offsets-fewer m l h.offsets;
  last = omega (arith, h.last, risen (offset w b first) n (rises h.offsets) m n l (le_refl n));
  small = omega (arith, h.small);
}

-- each row, and the one behind it, is a number
pub spans-number : {w : ℕ} {b : List ℕ} {first from : ℕ} {rs : List ℕ} → Among (Spans w b first from) rs → Below (2 ^ 64 - 1) rs
spans-number a = below_wider (omega (arith, a.holds.small)) a.below

pub span-first : {w : ℕ} {b : List ℕ} {first from : ℕ} {rs ts : List ℕ} {r : ℕ} → Among (Spans w b first from) rs → rs ≡ r ∷ ts → Spans w b first from (suc r)
span-first {r = r} h e = spans-fewer (suc r) (among_first h e) h.holds

-- the sizes of the kept rows add up to a small number
pub spans-small : (w : ℕ) (b : List ℕ) (first from : ℕ) (sel : Selection) → Spans w b first from (reach sel) → total_of (sizes_of (span_start w b first from) (selected sel)) < 2 ^ 64
spans-small w b first from sel h =
    let whole = rw (chosen-picks (kept_by sel) (reach sel), ← selected-kept sel) at (total-chosen (span_start w b first from) (kept_by sel) (reach sel) (start-rises w b first from (reach sel))) in
    omega (arith, whole, start-within w b first from (reach sel) (rises h.offsets), h.last)
