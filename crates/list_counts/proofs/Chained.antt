-- Where the rows of the root start in a node: down through a list without a bitmap, and what the node keeps by it. Assumes nothing.
use Prim.Native.Nat.{ℕ, zero, suc, ◌+◌, ◌-◌, ◌≤◌}
use mathlib.Core.Bool.{true}
use mathlib.Core.List.{List, [], ◌∷◌, ◌++◌}
use mathlib.Core.Path.{◌≡◌, refl, sym, ap, ap₂, ◌∙◌, subst}
use native.Mathlib.Nat.{add-zero}
use native.Mathlib.Omega.{arith}
use lib.ListN.{length, length-append}
use Rattle.format.specs.Bytes.{join}
use Rattle.format.specs.Slots.{count_up}
use Rattle.format.specs.Node.{rows, valid, has_no_bitmap}
use Rattle.format.specs.Rows.{Below, none, more}
use Rattle.format.specs.Kept.{kept_rows, span_size, span, kept_spans}
use Rattle.format.proofs.Laws.{kept-root}
use Rattle.format.proofs.RowLaws.{up_none, below-chosen}
use Rattle.format.proofs.SlotLaws.{length_up, up-cat}
use Rattle.nesting.specs.Rows.{Sifted, AtList, Level}
use Rattle.nesting.proofs.ListRows.{kept_spans-append}
use Rattle.nesting.proofs.ListAt.{list-spans, child-kept}
use Rattle.spans.specs.Spans.{first_offset, offset_from, spans, Rises}
use Rattle.spans.proofs.Spanned.{spans-run}
use Rattle.list_counts.specs.Chains.{ranges, Starts}
use Rattle.list_counts.proofs.Counts.{same, list-rises}

-- each row by itself
ranges-self : (rs : List ℕ) → ranges (λ r. r) rs ≡ rs
unfolding ranges join count_up
ranges-self [] = refl
ranges-self (r ∷ rs) = let e : suc r - r ≡ 1 = omega arith in rw (e, ranges-self rs)

-- how many rows ranges have
length-ranges : (e : ℕ → ℕ) (rs : List ℕ) → length (ranges e rs) ≡ spans e rs
unfolding ranges join spans
length-ranges e [] = refl
length-ranges e (r ∷ rs) = rw (length-append, length_up, length-ranges e rs)

-- a list without a bitmap: the child rows of neighbours are one range, from the first one's offset to the last one's
module _ {b : List ℕ} {w q : ℕ} (a : AtList b w q) (plain : has_no_bitmap b q ≡ true) {first : ℕ} (place : first ≡ first_offset b w q) where
  abbrev o : ℕ → ℕ
  o = offset_from w b first

  span-is : (r : ℕ) → span w b q r ≡ count_up (o (suc r) - o r) (o r)
  unfolding span span_size valid
  span-is r = rw (plain, same a place (suc r), same a place r)

  rise : (k m : ℕ) → k ≤ m → m ≤ rows b q → o k ≤ o m
  rise k m f g = let e : k + (m - k) ≡ m = omega arith in rw e at (spans-run o (rows b q) (list-rises a place) (m - k) k (omega arith)).0

  range-down : (k r : ℕ) → r + k ≤ rows b q → kept_spans w b q (count_up k r) ≡ count_up (o (r + k) - o r) (o r)
  unfolding kept_spans join count_up
  range-down zero r l = let e : o (r + 0) ≡ o r = ap o (add-zero r) in sym (up_none (o (r + 0) - o r) (o r) (omega arith))
  range-down (suc k) r l =
      let e : o (suc r + k) ≡ o (r + suc k) = ap o (omega arith) in
      let one : o r ≤ o (suc r) = rise r (suc r) (omega arith) (omega arith) in
      let rest : o (suc r) ≤ o (suc r + k) = rise (suc r) (suc r + k) (omega arith) (omega arith) in
      let all : o (r + suc k) - o r ≡ (o (suc r) - o r) + (o (suc r + k) - o (suc r)) = omega arith in
      let next : o r + (o (suc r) - o r) ≡ o (suc r) = omega arith in
      ap₂ ◌++◌ (span-is r) (range-down k (suc r) (omega arith))
      ∙ sym (ap (λ (n : ℕ). count_up n (o r)) all ∙ up-cat (o (suc r) - o r) (o (suc r + k) - o (suc r)) (o r) ∙ ap (λ (n : ℕ). count_up (o (suc r) - o r) (o r) ++ count_up (o (suc r + k) - o (suc r)) n) next)

  ranges-down : {e : ℕ → ℕ} {len : ℕ} → Rises e len → ((r : ℕ) → r ≤ len → e r ≤ rows b q) → (rs : List ℕ) → Below len rs
      → kept_spans w b q (ranges e rs) ≡ ranges (λ r. o (e r)) rs
  unfolding ranges kept_spans join
  ranges-down up inside [] none = refl
  ranges-down {e} up inside (r ∷ rs) (more l g) =
      let k : e r + (e (suc r) - e r) ≡ e (suc r) = omega (arith, up.next r l) in
      kept_spans-append w b q (count_up (e (suc r) - e r) (e r)) (ranges e rs)
      ∙ ap₂ ◌++◌ (rw k at (range-down (e (suc r) - e r) (e r) (rw k (inside (suc r) l)))) (ranges-down up inside rs g)

  -- so the root's rows start in its child at the offsets of where they start in it
  pub starts-below : {e : ℕ → ℕ} → Starts b q e → Starts b (suc q) (λ r. o (e r))
  starts-below {e} s =
      record {
        same = λ root g. child-kept a root ∙ ap (kept_spans w b q) (s.same root g) ∙ ranges-down s.up s.inside root g;
        up = record { next = λ r l. rise (e r) (e (suc r)) (s.up.next r l) (s.inside (suc r) l) };
        inside = λ r h. rw (same a place (e r)) ((list-spans a).inside (e r) (s.inside r h));
      }

-- the root's rows start at themselves
pub starts-root : (b : List ℕ) → Starts b 0 (λ r. r)
starts-root b =
    record {
      same = λ root _. kept-root b root ∙ sym (ranges-self root);
      up = record { next = λ r l. omega arith };
      inside = λ r l. l;
    }

-- a node that keeps another's rows
pub starts-level : {b : List ℕ} {node t : ℕ} {e : ℕ → ℕ} → Level b node t → Starts b t e → Starts b node e
starts-level l s =
    record {
      same = λ root g. sym (l.same root) ∙ s.same root g;
      up = s.up;
      inside = λ r h. rw (sym l.long) (s.inside r h);
    }

-- how many rows a node keeps
pub starts-count : {b root : List ℕ} {node n : ℕ} {e : ℕ → ℕ} → Starts b node e → Sifted root (rows b 0) → n ≡ spans e root → n ≡ length (kept_rows b root node)
starts-count {b} {root} {e = e} s sifted q =
    let below : Below (rows b 0) root = subst (Below (rows b 0)) (sym sifted.is) (below-chosen _ (rows b 0)) in
    q ∙ sym (ap length (s.same root below) ∙ length-ranges e root)
