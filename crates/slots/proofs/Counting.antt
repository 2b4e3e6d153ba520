-- Loops that count picked slots word by word, by the set bits of each; and the rows that a bitmap marks null. Assumes nothing.
use Prim.Native.Nat.{ℕ, ◌+◌, ◌-◌, ◌*◌, ◌/◌, ◌%◌, ◌≤◌, ◌<◌}
use Rattle.std.specs.Prelude.{Some, None}
use mathlib.Core.Bool.{Bool, true, false, not, ◌&&◌}
use mathlib.Core.List.{List}
use mathlib.Core.Path.{◌≡◌, refl, sym, ap, ap₂, ◌∙◌}
use native.Mathlib.Nat.{zero-add}
use native.Mathlib.Omega.{arith}
use lib.Bits.{bit_and}
use lib.Count.{ones, ones-le}
use lib.ListN.{length, get_or}
use Rattle.format.specs.Bytes.{le, chosen, bit_in, bit_at}
use Rattle.format.specs.Slots.{word_from, picks_from}
use Rattle.format.proofs.NullLaws.{not-picked}
use Rattle.format.proofs.SlotLaws.{count-cat, count-le, picks-ext}
use Rattle.format.proofs.WordLaws.{from_le, from-shift, from-and, from-ones, from-lt}
use Rattle.slots.specs.declared.Bits.{Bits}
use Rattle.slots.specs.Source.{both_set, slot_of, ByteWords}
use Rattle.slots.proofs.Reading.{slot_is, set-plain, set-valid}

-- n slots of the first w words pass the test
pub record Counted (p : ℕ → Bool) (n w : ℕ) : Type 0 where
  pub few : n ≤ 64 * w
  pub count : n ≡ length (picks_from p (64 * w) 0)

module _ (p : ℕ → Bool) where
  pub counted : (n w : ℕ) → n ≡ length (picks_from p (64 * w) 0) → Counted p n w
  counted n w e = record { few = rw e (count-le p (64 * w) 0); count = e }

  pub counted_start : Counted p 0 0
  unfolding picks_from
  counted_start = counted 0 0 refl

  -- a word has at most 64 set bits, and as many as slots of it pass
  pub most : (x i : ℕ) → x ≡ word_from p 64 i → ones x ≤ 64
  most x i e = ones-le 64 x (rw e (from-lt p 64 i))

  pub counted-more : (n w v x : ℕ) → Counted p n w → x ≡ word_from p 64 (64 * w) → v ≡ w + 1 → Counted p (n + ones x) v
  counted-more n w v x s e f =
      let next : 64 * v ≡ 64 * w + 64 = omega arith in
      counted _ v (rw (next, count-cat, zero-add, e, from-ones, ← s.count))

  pub counted-end : (n w m : ℕ) → Counted p n w → w ≤ m → m ≤ w → n ≡ length (picks_from p (64 * m) 0)
  counted-end n w m s l h = let e : w ≡ m = omega arith in rw e at s.count

-- slots that stand in eight bytes each: the place of a word of them in a bitmap, by the byte that it starts at
pub word-place : (b : Bits) {n : ℕ} (h : ByteWords b n) (w at : ℕ) → w < n → 8 * (at + (b.skip / 8 + 8 * w)) ≡ 8 * at + (b.skip + 64 * w)
word-place b h w at l =
    let even : b.skip % 8 ≡ 0 = h.even (omega arith) in
    omega arith

-- eight bytes are a word of the bits from a byte on, and two such words met one of the bits set in both
module _ (s : List ℕ) (small : (i : ℕ) → get_or s i 0 < 256) (w : ℕ) where
  pub bytes_word : (at x : ℕ) → x ≡ le 8 s (at + 8 * w) → x ≡ word_from (bit_at s at) 64 (64 * w)
  unfolding bit_at
  bytes_word at x e =
      let place : 8 * (at + 8 * w) ≡ 8 * at + 64 * w = omega arith in
      e ∙ from_le s small 8 (at + 8 * w) ∙ ap (word_from (bit_in s) 64) place ∙ from-shift (bit_in s) (8 * at) 64 (64 * w)

  pub both_word : (at to x y : ℕ) → x ≡ le 8 s (at + 8 * w) → y ≡ le 8 s (to + 8 * w) → bit_and x y ≡ word_from (λ j. bit_at s at j && bit_at s to j) 64 (64 * w)
  both_word at to x y e f = ap₂ bit_and (bytes_word at x e) (bytes_word to y f) ∙ from-and (bit_at s at) (bit_at s to) 64 (64 * w)

-- the slots of words that stand in eight bytes each are the bits from their byte on
module _ (s : List ℕ) (b : Bits) (n : ℕ) (h : ByteWords b n) where
  place : (at j : ℕ) → j < 64 * n → 8 * at + (b.skip + j) ≡ 8 * (at + b.skip / 8) + j
  place at j l = let e : b.skip % 8 ≡ 0 = h.even (omega arith) in omega arith

  inside : (j : ℕ) → j < 64 * n → j < b.len
  inside j l = omega (arith, h.whole)

  pub bits-picks : b.validity ≡ None → picks_from (bit_at s (b.values_at + b.skip / 8)) (64 * n) 0 ≡ picks_from (slot_of s b) (64 * n) 0
  unfolding bit_at
  bits-picks e =
      picks-ext _ _ (64 * n) 0
      (λ j _ l.
      let k : j < 64 * n = omega arith in
      sym (slot_is s b j (inside j k) ∙ set-plain s b j e ∙ ap (bit_in s) (place b.values_at j k)))

  pub both-picks : {to : ℕ} → b.validity ≡ Some to
      → picks_from (λ j. bit_at s (b.values_at + b.skip / 8) j && bit_at s (to + b.skip / 8) j) (64 * n) 0 ≡ picks_from (slot_of s b) (64 * n) 0
  unfolding bit_at
  both-picks {to} e =
      picks-ext _ _ (64 * n) 0
      (λ j _ l.
      let k : j < 64 * n = omega arith in
      sym (slot_is s b j (inside j k) ∙ set-valid s b j e ∙ ap₂ (λ (x y : ℕ). bit_in s x && bit_in s y) (place b.values_at j k) (place to j k)))

-- the rows that one bitmap marks, taken from all
module _ (s : List ℕ) (b : Bits) (e : b.validity ≡ None) where
  marked-rows : picks_from (slot_of s b) b.len 0 ≡ picks_from (λ j. bit_at s b.values_at (b.skip + j)) b.len 0
  unfolding bit_at
  marked-rows = picks-ext _ _ b.len 0 (λ j _ h. slot_is s b j (omega arith) ∙ set-plain s b j e)

  pub null-rows : b.len - length (picks_from (slot_of s b) b.len 0) ≡ length (chosen (λ j. not (bit_at s b.values_at (b.skip + j))) b.len)
  null-rows = rw marked-rows (not-picked _ b.len)
