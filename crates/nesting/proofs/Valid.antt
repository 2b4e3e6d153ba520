-- Which rows of a list's word are valid. Assumes nothing.
use Prim.Native.Nat.{ℕ, zero, suc, ◌+◌, ◌*◌, ◌/◌, ◌%◌, ◌^◌, ◌<◌}
use mathlib.Core.Bool.{Bool, true, false}
use mathlib.Core.List.{List}
use mathlib.Core.Path.{◌≡◌, refl, sym, ap, ◌∙◌}
use mathlib.Core.Logic.{⊎_elim}
use native.Mathlib.Omega.{arith}
use lib.Arith.{lt-one}
use lib.Bits.{bit_and, and_step}
use Rattle.format.specs.Bytes.{bit_in}
use Rattle.format.specs.Node.{skip, validity_at, has_no_bitmap, valid}
use Rattle.format.specs.Slots.{word_from, slots_from}
use Rattle.format.specs.Words.{word_of}
use Rattle.format.proofs.WordLaws.{bit_below, bits_above, half_lt, from-ext, from-shift, parity}
use Rattle.nesting.specs.Rows.{AtList}
use Rattle.nesting.proofs.ListAt.{valid-none, valid-read}

-- where all tests pass, AND with their word changes nothing
and-all : (p : ℕ → Bool) → ((j : ℕ) → p j ≡ true) → (n i x : ℕ) → x < 2 ^ n → bit_and x (word_from p n i) ≡ x
unfolding word_from slots_from word_of
and-all p all zero i x h = let z : x ≡ 0 = omega (arith, lt-one h) in rw z
and-all p all (suc n) i x h =
    rw (and_step, bit_below (p i), bits_above (p i), all i, and-all p all n (suc i) (x / 2) (half_lt x n h))
    (⊎_elim (λ (e : x % 2 ≡ 0). rw e (omega arith)) (λ (e : x % 2 ≡ 1). rw e (omega arith)) (parity x))

module _ {b : List ℕ} {w i : ℕ} (a : AtList b w i) (base word : ℕ) where
  -- a list without a bitmap has no null
  pub all_valid : word < 2 ^ 64 → has_no_bitmap b i ≡ true → word ≡ bit_and word (word_from (valid b i) 64 base)
  all_valid h e = sym (and-all (valid b i) (λ r. sym (valid-none a e r)) 64 base word h)

  pub some-valid : has_no_bitmap b i ≡ false → {first : ℕ} → first ≡ 8 * validity_at b i + skip b i → {x : ℕ} → x ≡ word_from (bit_in b) 64 (first + base)
      → bit_and word x ≡ bit_and word (word_from (valid b i) 64 base)
  some-valid ne {first} q e =
      ap (bit_and word)
      (e ∙ from-shift (bit_in b) first 64 base ∙ from-ext _ (valid b i) 64 base (λ j l h. valid-read a ne q j refl))
