-- What the rows picked by a test span, word by word of 64 slots. Assumes nothing.
use Prim.Native.Nat.{ℕ, zero, suc, ◌+◌, ◌-◌, ◌*◌, ◌^◌, ◌≤◌, ◌<◌}
use mathlib.Core.Bool.{Bool, true, false}
use mathlib.Core.List.{List, ◌++◌, append-nil}
use mathlib.Core.Path.{◌≡◌, refl, sym, ap, ◌∙◌}
use mathlib.Core.Logic.{dite}
use native.Mathlib.Decide.{dec_le}
use native.Mathlib.Nat.{add-zero, zero-add, le_refl}
use native.Mathlib.Omega.{arith}
use lib.ListN.{length}
use Rattle.format.specs.Bytes.{chosen, one}
use Rattle.format.specs.Rows.{set_rows, Below, none, more}
use Rattle.format.specs.Slots.{word_from, pick, picks_from, All}
use Rattle.format.proofs.RowLaws.{set-none, set-from}
use Rattle.format.proofs.SlotLaws.{picks-cat, picks-none, chosen-picks}
use Rattle.nesting.proofs.Between.{chosen_more}
use Rattle.spans.specs.Spans.{offset_from, spans, Mounts, Rising}
use Rattle.spans.proofs.Spanned.{spans-none, spans-append, spans-run, picks-le}

-- the offsets of len rows lie in b and do not fall, and the last fits
pub record Laid (w : ℕ) (b : List ℕ) (first len : ℕ) : Type 0 where
  pub small : len < 2 ^ 64
  pub inside : first + w * suc len ≤ length b
  pub mounts : Mounts (offset_from w b first) len

pub below-picked : (p : ℕ → Bool) (len : ℕ) → ((j : ℕ) → len ≤ j → p j ≡ false) → (n i : ℕ) → Below len (picks_from p n i)
unfolding picks_from
below-picked p len past zero i = none
below-picked p len past (suc n) i = go (p i) refl (below-picked p len past n (suc i))
  where
    go : (t : Bool) → p i ≡ t → Below len (picks_from p n (suc i)) → Below len (pick t i (picks_from p n (suc i)))
    go true e g =
        dite (dec_le len i)
        (λ l. let z : one true ≡ one false = ap one (sym e ∙ past i l) in absurd (omega arith))
        (λ l. let k : i < len = omega arith in more k g)
    go false e g = g

chosen-word : (p : ℕ → Bool) (m : ℕ) → chosen p (m + 64) ≡ chosen p m ++ set_rows m (word_from p 64 m)
chosen-word p m =
    chosen-picks p (m + 64) ∙ picks-cat p m 64 0 ∙ rw (zero-add, set-from p m, chosen-picks p m)

pub no_words : (o : ℕ → ℕ) (p : ℕ → Bool) → 0 ≡ spans o (chosen p 0)
unfolding chosen spans
no_words o p = refl

-- slots that are passed over add nothing
pub passed : (o : ℕ → ℕ) {p : ℕ → Bool} {a e : ℕ} → a ≤ e → All p false a e → {n : ℕ} → n ≡ spans o (chosen p a) → n ≡ spans o (chosen p e)
passed o {p} {a} {e} l f q =
    let to : e ≡ a + (e - a) = omega arith in
    q ∙ ap (spans o) (chosen-picks p a ∙ sym (chosen-picks p e ∙ ap (λ (m : ℕ). picks_from p m 0) to ∙ picks-cat p a _ 0 ∙ rw (zero-add, picks-none p (e - a) a (rw (← to) f), append-nil)))

-- rows picked by p, none from len on: by any offsets that do not fall and fit
module _ {o : ℕ → ℕ} {len : ℕ} (mounts : Mounts o len) {p : ℕ → Bool} (past : (j : ℕ) → len ≤ j → p j ≡ false) where
  pub chosen-le : (k : ℕ) → spans o (chosen p k) ≤ o len
  chosen-le k = dite (dec_le k len) (within k) (λ l. rw (chosen_more p len k (omega arith) past) (within len (le_refl len)))
    where
      within : (k : ℕ) → k ≤ len → spans o (chosen p k) ≤ o len
      within k l =
          let some = picks-le o len mounts.up p k 0 (omega arith) in
          let (rise, all) = spans-run o len mounts.up (len - k) k (omega arith) in
          let e : k + (len - k) ≡ len = omega arith in
          let z : 0 + k ≡ k = zero-add k in
          rw (chosen-picks p k) (omega (arith, rw z at some, rw e at rise))

  -- slots m to m + 63
  module _ (m : ℕ) {x : ℕ} (e : x ≡ word_from p 64 m) where
    pub word_below : Below len (set_rows m x)
    word_below = rw (e, set-from p m) (below-picked p len past 64 m)

    pub word_more : {n r : ℕ} → n ≡ spans o (chosen p m) → r ≡ spans o (set_rows m x) → (k : ℕ) → k ≡ m + 64 → n + r ≡ spans o (chosen p k)
    word_more en er k ek = rw (en, er, ek, e) (sym (ap (spans o) (chosen-word p m) ∙ spans-append o (chosen p m) _))

    -- an empty word adds nothing
    pub word_none : x ≡ 0 → {n : ℕ} → n ≡ spans o (chosen p m) → (k : ℕ) → k ≡ m + 64 → n ≡ spans o (chosen p k)
    word_none z {n} en k ek = sym (add-zero n) ∙ word_more en (sym (spans-none o (set_rows m x) (set-none m x z))) k ek

    pub word_fits : {n r : ℕ} → n ≡ spans o (chosen p m) → r ≡ spans o (set_rows m x) → n + r < 2 ^ 64
    word_fits en er = omega (arith, word_more en er (m + 64) refl, chosen-le (m + 64), mounts.fits)

    pub word_small : spans o (set_rows m x) < 2 ^ 64
    word_small = omega (arith, word_fits refl refl)

-- by offsets that are read
pub rising_word : {w : ℕ} {b : List ℕ} {first len : ℕ} → Laid w b first len → {p : ℕ → Bool} → ((j : ℕ) → len ≤ j → p j ≡ false)
    → (m : ℕ) {x : ℕ} → x ≡ word_from p 64 m → Rising w b first (set_rows m x)
rising_word laid past m e =
    record {
      len = _;
      small = laid.small;
      below = word_below laid.mounts past m e;
      inside = laid.inside;
      next = laid.mounts.up.next;
    }
