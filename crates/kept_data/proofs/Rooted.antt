-- Nodes that keep the root's rows: nulls by words, and their bytes. Assumes nothing.
use Prim.Native.Nat.{ℕ, zero, suc, ◌+◌, ◌-◌, ◌*◌, ◌^◌, ◌/◌, ◌%◌, ◌≤◌, ◌<◌}
use mathlib.Core.Bool.{Bool, true, false, not, ◌&&◌, ◌||◌, true≢false}
use mathlib.Core.List.{List, map}
use mathlib.Core.Path.{◌≡◌, refl, sym, ap, ◌∙◌}
use mathlib.Core.Logic.{dite}
use native.Mathlib.Decide.{dec_lt}
use native.Mathlib.Omega.{arith}
use borrow.Author.Tests.{eq-eqb, eqb-true}
use lib.Bits.{bit_and}
use lib.Dec.{eqb}
use lib.ListN.{length}
use Rattle.std.specs.List.{list_any, range_with_len}
use Rattle.format.specs.Bytes.{any_below, chosen, one, bit_in, join}
use Rattle.format.specs.Slots.{word_from, All}
use Rattle.format.specs.Node.{valid, second_length}
use Rattle.format.specs.Kept.{kept_rows, own_bytes}
use Rattle.format.specs.Write.{any_null}
use Rattle.format.proofs.Laws.{any_none}
use Rattle.format.proofs.SlotLaws.{all_none, all_join, all-less}
use Rattle.format.proofs.WordLaws.{from-and, from-bit, from-ext, from-shift}
use Rattle.nesting.specs.Rows.{AtRoot}
use Rattle.kept_data.proofs.Nulls.{null-any}

-- Nulls by words: p picks, q says valid

agree-one : (a c : Bool) → one (a && c) ≡ one a → (a && not c) ≡ false
agree-one true true e = refl
agree-one true false e = absurd (omega arith)
agree-one false c e = refl

agree : (t : Bool) → not t ≡ false → t ≡ true
agree true e = refl
agree false e = absurd (true≢false e)

agree-both : (a c : Bool) → (a && not c) ≡ false → (a && c) ≡ a
agree-both true true e = refl
agree-both true false e = sym e
agree-both false c e = refl

module _ (p q : ℕ → Bool) where
  -- the words agree: no picked slot is null
  words_same : (n i : ℕ) → bit_and (word_from p n i) (word_from q n i) ≡ word_from p n i → All (λ j. p j && not (q j)) false i (i + n)
  words_same n i e = record { at = λ j l h. here j l h }
    where
      bit : (k : ℕ) → k < n → one (p (i + k) && q (i + k)) ≡ one (p (i + k))
      bit k h =
          sym (from-bit (λ j. p j && q j) n i k h)
          ∙ ap (λ (x : ℕ). x / 2 ^ k % 2) (sym (from-and p q n i) ∙ e)
          ∙ from-bit p n i k h

      here : (j : ℕ) → i ≤ j → j < i + n → (p j && not (q j)) ≡ false
      here j l h =
          let m : i + (j - i) ≡ j = omega arith in
          agree-one (p j) (q j) (rw m at (bit (j - i) (omega arith)))

  -- they differ: some is
  words-other : (n i len : ℕ) → ((j : ℕ) → len ≤ j → p j ≡ false) → (bit_and (word_from p n i) (word_from q n i) ≡ word_from p n i → ⊥)
      → true ≡ any_below (λ j. p j && not (q j)) len
  words-other n i len past f = go (any_below (λ j. p j && not (q j)) len) refl
    where
      each : any_below (λ j. p j && not (q j)) len ≡ false → (j : ℕ) → (p j && q j) ≡ p j
      each e j =
          dite (dec_lt j len)
          (λ l. agree-both (p j) (q j) (any_none (λ j. p j && not (q j)) len j l e))
          (λ l. rw (past j (omega arith)))

      go : (t : Bool) → any_below (λ j. p j && not (q j)) len ≡ t → true ≡ t
      go true e = refl
      go false e = absurd (f (from-and p q n i ∙ from-ext (λ j. p j && q j) p n i (λ j a l. each e j)))

nowhere : (p : ℕ → Bool) (n : ℕ) → All p false 0 n → any_below p n ≡ false
unfolding any_below
nowhere p zero all = refl
nowhere p (suc n) all =
    rw (nowhere p n (record { at = λ j a l. all.at j (omega arith) (omega arith) }), all.at n (omega arith) (omega arith))

any-agree : (p q : ℕ → Bool) (n : ℕ) → ((i : ℕ) → p i ≡ q i) → any_below p n ≡ any_below q n
unfolding any_below
any-agree p q zero h = refl
any-agree p q (suc n) h = rw (any-agree p q n h, h n)

-- so a node at the root has a null among its kept rows
pub root-null : (b root : List ℕ) (node first : ℕ) (p : ℕ → Bool) (n : ℕ) → ((r : ℕ) → bit_in b (first + r) ≡ valid b node r) → kept_rows b root node ≡ chosen p n
    → any_below (λ r. p r && not (bit_in b (first + r))) n ≡ any_null (map (valid b node) (kept_rows b root node))
root-null b root node first p n bit e =
    any-agree _ (λ r. p r && not (valid b node r)) n (λ r. ap (λ (t : Bool). p r && not t) (bit r))
    ∙ sym (null-any p (valid b node) n)
    ∙ ap (λ (rs : List ℕ). any_null (map (valid b node) rs)) (sym e)

-- Word w of the picks, and as many bits from `first` + 64 w on: a picked slot is null where they differ

module _ (p : ℕ → Bool) (s : List ℕ) (first : ℕ) where
  abbrev pub differs : ℕ → Bool
  differs w = not (eqb (bit_and (word_from p 64 (64 * w)) (word_from (bit_in s) 64 (first + 64 * w))) (word_from p 64 (64 * w)))

  abbrev lost : ℕ → Bool
  lost j = p j && not (bit_in s (first + j))

  both : (w : ℕ) → bit_and (word_from p 64 (64 * w)) (word_from (bit_in s) 64 (first + 64 * w)) ≡ bit_and (word_from p 64 (64 * w)) (word_from (λ j. bit_in s (first + j)) 64 (64 * w))
  both w = ap (bit_and (word_from p 64 (64 * w))) (from-shift (bit_in s) first 64 (64 * w))

  words-lost : {len : ℕ} → ((j : ℕ) → len ≤ j → p j ≡ false) → (n i : ℕ) → len ≤ 64 * (i + n) → All lost false 0 (64 * i) → list_any differs (range_with_len i n) ≡ any_below lost len
  words-lost {len} past zero i l all = sym (nowhere lost len (all-less (omega arith) all))
  words-lost {len} past (suc n) i l all = go (differs i) refl (λ a. words-lost past n (i + 1) (omega arith) a)
    where
      go : (t : Bool) → differs i ≡ t → (All lost false 0 (64 * (i + 1)) → list_any differs (range_with_len (i + 1) n) ≡ any_below lost len) → (t || list_any differs (range_with_len (i + 1) n)) ≡ any_below lost len
      go true e _ = words-other p (λ j. bit_in s (first + j)) 64 (64 * i) len past (λ q. true≢false (sym e ∙ ap not (eq-eqb _ _ (both i ∙ q))))
      go false e rest =
          let same : bit_and (word_from p 64 (64 * i)) (word_from (bit_in s) 64 (first + 64 * i)) ≡ word_from p 64 (64 * i) = eqb-true _ _ (agree (eqb _ _) e) in
          let z : 64 * (i + 1) ≡ 64 * i + 64 = omega arith in
          rest (rw z (all_join all (words_same p (λ j. bit_in s (first + j)) 64 (64 * i) (sym (both i) ∙ same))))

  pub any-lost : (n : ℕ) {len : ℕ} → ((j : ℕ) → len ≤ j → p j ≡ false) → len ≤ 64 * n → list_any differs (range_with_len 0 n) ≡ any_below lost len
  any-lost n past l = words-lost past n 0 (omega arith) (all_none (omega arith))

pub null-end : (p : ℕ → Bool) (n k : ℕ) → n ≤ k → All p false 0 k → false ≡ any_below p n
null-end p n k h all = sym (nowhere p n (all-less h all))

-- the bytes of a node at the root are those of the root's rows
pub root-bytes : {b : List ℕ} {node : ℕ} {t : Bool} (w : ℕ) (root : List ℕ) (n : ℕ) → AtRoot b node t → t ≡ true
    → (n ≡ length (join (map (own_bytes w b node) root))) × (n ≤ second_length b node)
    → (n ≡ length (join (map (own_bytes w b node) (kept_rows b root node)))) × (n ≤ second_length b node)
root-bytes {b} {node} w root n a e f = (f.0 ∙ ap (λ (rs : List ℕ). length (join (map (own_bytes w b node) rs))) (sym (a.same e root)), f.1)
