-- The child rows of picked valid rows, by what lies between their offsets. Assumes nothing.
use Prim.Native.Nat.{ℕ, zero, suc, ◌+◌, ◌-◌, ◌*◌, ◌≤◌, ◌<◌}
use mathlib.Core.Bool.{Bool, true, false, cond, ◌&&◌}
use mathlib.Core.List.{List, [], ◌∷◌}
use mathlib.Core.Path.{◌≡◌, refl, sym, ap, ◌∙◌}
use mathlib.Core.Logic.{dite}
use native.Mathlib.Decide.{dec_le}
use native.Mathlib.Nat.{add-zero, mul-suc}
use native.Mathlib.Numerals.{add-one}
use native.Mathlib.Omega.{arith}
use lib.Bits.{bit_and}
use lib.ListN.{length}
use Rattle.format.specs.Bytes.{chosen, join}
use Rattle.format.specs.Node.{rows, valid, first_number}
use Rattle.format.specs.Slots.{word_from, All}
use Rattle.format.specs.Kept.{span_size, kept_spans}
use Rattle.format.proofs.WordLaws.{from-and}
use Rattle.slots.specs.declared.Bits.{Bits}
use Rattle.slots.specs.Source.{slot_of}
use Rattle.slots.proofs.Reading.{slot-past}
use Rattle.nesting.specs.Rows.{picks_of, Sifted, AtList}
use Rattle.nesting.proofs.Between.{chosen_more}
use Rattle.nesting.proofs.ListRows.{spans-more}
use Rattle.nesting.proofs.Picks.{none-past}
use Rattle.nesting.proofs.ListAt.{list-spans, rows_few, child-few, start-lies}
use Rattle.spans.specs.Spans.{first_offset, offset_from, spans, Rises}
use Rattle.spans.proofs.Spanned.{spans-append}
use Rattle.spans.proofs.ByWords.{Laid}
use Rattle.spans.proofs.Listed.{offset-is}

-- where none is chosen from k up to n nor behind n
chosen_end : (p : ℕ → Bool) (k n : ℕ) → ((j : ℕ) → k ≤ j → j < n → p j ≡ false) → ((j : ℕ) → n ≤ j → p j ≡ false) → chosen p k ≡ chosen p n
chosen_end p k n none past =
    dite (dec_le k n)
    (λ h. sym (chosen_more p k n h (λ j l. dite (dec_le n j) (past j) (λ g. none j l (omega arith)))))
    (λ h. chosen_more p n k (omega arith) past)

-- child rows of chosen rows are what the valid ones of them span
kept_spans-are : (w : ℕ) (b : List ℕ) (i : ℕ) (o : ℕ → ℕ) → ((r : ℕ) → o r ≡ first_number w b i r) → (t : ℕ → Bool) (n : ℕ)
    → spans o (chosen (λ j. t j && valid b i j) n) ≡ length (kept_spans w b i (chosen t n))
unfolding chosen spans kept_spans join span_size
kept_spans-are w b i o same t zero = refl
kept_spans-are w b i o same t (suc n) =
    spans-append o (chosen (λ j. t j && valid b i j) n) _
    ∙ spans-more w b i t n (kept_spans-are w b i o same t n) (go (t n))
    ∙ ap (λ (m : ℕ). length (kept_spans w b i (chosen t m))) (add-one n)
  where
    sized : (v : Bool) → spans o (cond v (n ∷ []) []) ≡ cond v (first_number w b i (suc n) - first_number w b i n) 0
    sized true = rw (same (suc n), same n) (add-zero _)
    sized false = refl

    go : (u : Bool) → spans o (cond (u && valid b i n) (n ∷ []) []) ≡ cond u (span_size w b i n) 0
    go true = sized (valid b i n)
    go false = refl

-- the picked valid rows
unfoldable pub counted : List ℕ → Bits → List ℕ → ℕ → ℕ → Bool
counted m bits b i j = slot_of m bits j && valid b i j

module _ {b : List ℕ} {w i : ℕ} (a : AtList b w i) (m : List ℕ) (bits : Bits) where
  -- the mask's word, and of it the valid rows
  pub counted-word : (base : ℕ) {x v : ℕ} → x ≡ word_from (slot_of m bits) 64 base → v ≡ bit_and x (word_from (valid b i) 64 base) → v ≡ word_from (counted m bits b i) 64 base
  unfolding counted
  counted-word base ex ev = ev ∙ ap (λ (y : ℕ). bit_and y (word_from (valid b i) 64 base)) ex ∙ from-and (slot_of m bits) (valid b i) 64 base

  pub counted-past : Sifted (picks_of m bits) (rows b i) → (j : ℕ) → rows b i ≤ j → counted m bits b i j ≡ false
  unfolding counted
  counted-past s j l = rw (none-past m bits (rows b i) s j l)

  pub none_passed : {lo hi : ℕ} → All (slot_of m bits) false lo hi → All (counted m bits b i) false lo hi
  unfolding counted
  none_passed f = record { at = λ j l h. rw (f.at j l h) }

-- the list's offsets, from row 0's on
module _ {b : List ℕ} {w i : ℕ} (a : AtList b w i) {first : ℕ} (place : first ≡ first_offset b w i) where
  pub same : (r : ℕ) → offset_from w b first r ≡ first_number w b i r
  same = offset-is a first place

  pub list-rises : Rises (offset_from w b first) (rows b i)
  list-rises = record { next = λ r l. rw (same r, same (suc r)) ((list-spans a).rise r l) }

  pub list-lies : first + w * suc (rows b i) ≤ length b
  list-lies = omega (arith, start-lies a place (rows b i) (omega arith), mul-suc w (rows b i))

  pub list-laid : Laid w b first (rows b i)
  list-laid =
      record {
        small = omega (arith, rows_few a);
        inside = list-lies;
        mounts = record { up = list-rises; fits = omega (arith, same (rows b i), (list-spans a).inside (rows b i) (omega arith), child-few a) };
      }

  -- all words passed
  pub all-counted : (m : List ℕ) (bits : Bits) (k : ℕ) {n : ℕ} → All (slot_of m bits) false k bits.len → n ≡ spans (offset_from w b first) (chosen (counted m bits b i) k)
      → n ≡ length (kept_spans w b i (picks_of m bits))
  unfolding counted
  all-counted m bits k f e =
      e
      ∙ ap (spans (offset_from w b first)) (chosen_end (counted m bits b i) k bits.len (λ j l h. rw (f.at j l h)) (λ j h. rw (slot-past m bits j h)))
      ∙ kept_spans-are w b i (offset_from w b first) same (slot_of m bits) bits.len

-- what picked rows span by any offsets, all words passed
pub all-picked : (o : ℕ → ℕ) (m : List ℕ) (bits : Bits) (k : ℕ) {n : ℕ} → All (slot_of m bits) false k bits.len → n ≡ spans o (chosen (slot_of m bits) k) → n ≡ spans o (picks_of m bits)
all-picked o m bits k f e = e ∙ ap (spans o) (chosen_end (slot_of m bits) k bits.len f.at (slot-past m bits))
