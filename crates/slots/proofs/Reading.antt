-- A source's slots by the bits that are read, and its words. Assumes nothing.
use Prim.Native.Nat.{ℕ, ◌+◌, ◌-◌, ◌*◌, ◌/◌, ◌%◌, ◌^◌, ◌≤◌, ◌<◌, min}
use Rattle.std.specs.Prelude.{Option, Some, None, MatchOption}
use mathlib.Core.Bool.{Bool, true, false, ◌&&◌, and-true}
use mathlib.Core.List.{List}
use mathlib.Core.Logic.{dite}
use native.Mathlib.Decide.{dec_le}
use mathlib.Core.Path.{◌≡◌, refl, sym, ap, ◌∙◌}
use native.Mathlib.Nat.{add_assoc}
use native.Mathlib.Omega.{arith}
use lib.Bits.{bit_and}
use Rattle.format.specs.Bytes.{bit_in, bit_at}
use Rattle.format.specs.Slots.{word_from, picks_from}
use Rattle.format.proofs.SlotLaws.{up_to-is, up_to-past, up_to-in, picks-up_to}
use Rattle.format.proofs.WordLaws.{from-ext, from-shift, from-and, from-full, from_cut, from_low, from-high}
use Rattle.slots.specs.declared.Bits.{Bits}
use Rattle.slots.specs.Source.{both_set, slot_of}

-- the low n bits of a word are the first n slots
pub first-slots : (p : ℕ → Bool) (w n i : ℕ) → n ≤ w → word_from p w i % 2 ^ n ≡ word_from p n i
first-slots p w n i h = let e : w ≡ n + (w - n) = omega arith in rw e (from_low p n (w - n) i)

-- what is left of a word of w slots after its first r
pub word-rest : (p : ℕ → Bool) (w r i k x : ℕ) → r ≤ w → k ≡ i + r → x ≡ word_from p w i → x / 2 ^ r ≡ word_from p (w - r) k
word-rest p w r i k x h e ex =
    let s : w ≡ r + (w - r) = omega arith in
    ap (λ (y : ℕ). y / 2 ^ r) (ex ∙ ap (λ (n : ℕ). word_from p n i) s) ∙ from-high p r (w - r) i ∙ ap (word_from p (w - r)) (sym e)

-- ---- slots, and none past the last

module _ (s : List ℕ) (b : Bits) where
  pub slot_is : (j : ℕ) → j < b.len → slot_of s b j ≡ both_set s b j
  unfolding slot_of
  slot_is j h = up_to-is (both_set s b) b.len j h

  pub slot-past : (j : ℕ) → b.len ≤ j → slot_of s b j ≡ false
  unfolding slot_of
  slot-past j h = up_to-past (both_set s b) b.len j h

  pub slot-in : (j : ℕ) → slot_of s b j ≡ true → j < b.len
  unfolding slot_of
  slot-in j h = up_to-in (both_set s b) b.len j h

  -- more slots than there are pick no more
  pub slots-picks : (n : ℕ) → b.len ≤ n → picks_from (slot_of s b) n 0 ≡ picks_from (slot_of s b) b.len 0
  unfolding slot_of
  slots-picks n h =
      picks-up_to (both_set s b) b.len n 0 (omega arith) (omega arith)
      ∙ sym (picks-up_to (both_set s b) b.len b.len 0 (omega arith) (omega arith))

  -- ---- slot i by its bits

  pub set-plain : (i : ℕ) → b.validity ≡ None → both_set s b i ≡ bit_in s (8 * b.values_at + (b.skip + i))
  unfolding both_set bit_at
  set-plain i e = rw (e, and-true)

  pub set-valid : {at : ℕ} (i : ℕ) → b.validity ≡ Some at → both_set s b i ≡ (bit_in s (8 * b.values_at + (b.skip + i)) && bit_in s (8 * at + (b.skip + i)))
  unfolding both_set bit_at
  set-valid i e = rw e

  pub set-not : (i : ℕ) → bit_in s (8 * b.values_at + (b.skip + i)) ≡ false → both_set s b i ≡ false
  unfolding both_set bit_at
  set-not i e = rw e

  -- ---- a word of slots by the words of their bits

  -- a place counted from a buffer's start, its skip apart
  from-skip : (at i : ℕ) → 8 * at + (b.skip + i) ≡ 8 * at + b.skip + i
  from-skip at i = sym (add_assoc (8 * at) b.skip i)

  pub word-plain : (n i : ℕ) → b.validity ≡ None → word_from (bit_in s) n (8 * b.values_at + (b.skip + i)) ≡ word_from (both_set s b) n i
  word-plain n i e =
      rw (from-skip, from-shift) (from-ext _ _ n i (λ j _ _. sym (set-plain j e ∙ ap (bit_in s) (from-skip b.values_at j))))

  pub word-valid : {at : ℕ} (n i : ℕ) → b.validity ≡ Some at → bit_and (word_from (bit_in s) n (8 * b.values_at + (b.skip + i))) (word_from (bit_in s) n (8 * at + (b.skip + i))) ≡ word_from (both_set s b) n i
  word-valid {at} n i e =
      rw (from-skip b.values_at, from-skip at, from-shift (bit_in s) (8 * b.values_at + b.skip), from-shift (bit_in s) (8 * at + b.skip), from-and)
      (from-ext _ _ n i (λ j _ _. sym (rw (from-skip b.values_at, from-skip at) at (set-valid j e))))

  -- by what is read of each bitmap
  pub read-word : (n i : ℕ) {x r : ℕ} (Q : ℕ → Type 0) → x ≡ word_from (bit_in s) n (8 * b.values_at + (b.skip + i)) → MatchOption b.validity (r ≡ x) Q
      → ((at : ℕ) → Q at → (y : ℕ) × (y ≡ word_from (bit_in s) n (8 * at + (b.skip + i))) × (r ≡ bit_and x y))
      → r ≡ word_from (both_set s b) n i
  read-word n i {x} {r} Q e m f = go b.validity refl m
    where
      go : (o : Option ℕ) → b.validity ≡ o → MatchOption o (r ≡ x) Q → r ≡ word_from (both_set s b) n i
      go None v q = q ∙ e ∙ word-plain n i v
      go (Some at) v q = let (y, f, g) = f at q in rw (g, e, f) (word-valid n i v)

  pub word-full : (n i : ℕ) → i + n ≤ b.len → word_from (both_set s b) n i ≡ word_from (slot_of s b) n i
  unfolding slot_of
  word-full n i h = sym (from-full (both_set s b) b.len n i h)

  pub word_cut : (n i : ℕ) → i ≤ b.len → b.len ≤ i + n → word_from (both_set s b) n i % 2 ^ (b.len - i) ≡ word_from (slot_of s b) n i
  unfolding slot_of
  word_cut n i h l = from_cut (both_set s b) b.len n i h l

  -- the slots before the last are all that a word past it has
  pub word-end : (n i : ℕ) → i ≤ b.len → n ≡ min (b.len - i) 64 → word_from (slot_of s b) n i ≡ word_from (slot_of s b) 64 i
  word-end n i h e =
      dite (dec_le b.len (i + 64))
      (λ l.
      let m : n ≡ b.len - i = omega arith in
      rw m (sym (word-full (b.len - i) i (omega arith)) ∙ sym (first-slots (both_set s b) 64 (b.len - i) i (omega arith)) ∙ word_cut 64 i h l))
      (λ l. let m : n ≡ 64 = omega arith in rw m)
