-- Ranges of bits as tests, and the words of tests OR-ed. Assumes nothing.
use Prim.Native.Nat.{ℕ, zero, suc, ◌+◌, ◌-◌, ◌*◌, ◌/◌, ◌%◌, ◌^◌, ◌≤◌, ◌<◌, max}
use mathlib.Core.Bool.{Bool, true, false, ◌||◌, and-false}
use mathlib.Core.Logic.{dite}
use mathlib.Core.Path.{◌≡◌, refl, sym, ap, ◌∙◌}
use native.Mathlib.Decide.{dec_le}
use native.Mathlib.Nat.{zero-add, add-zero, zero-mul, pow-suc, mod-eq_of_lt}
use native.Mathlib.Omega.{arith}
use borrow.Author.Tests.{le-ltb, lt-ltb, le-leb, lt-leb}
use lib.Arith.{bin_ind}
use lib.Bits.{bit_or, or_step, or_add_and, and_mask}
use lib.Dec.{leb}
use lib.Pow.{high_ones, pow_pos, pow_mono}
use Rattle.format.specs.Bytes.{one, within}
use Rattle.format.specs.Words.{word_of}
use Rattle.format.specs.Slots.{slots_from, word_from, All}
use Rattle.format.proofs.WordLaws.{bit_below, bits_above, one_shl, from-cat, from-none}

-- ---- a range

pub within_in : (lo hi k : ℕ) → lo ≤ k → k < hi → within 0 lo hi k ≡ true
unfolding within
within_in lo hi k l h = rw (zero-add k, le-leb lo k l, lt-ltb k hi h)

pub within-before : (lo hi k : ℕ) → k < lo → within 0 lo hi k ≡ false
unfolding within
within-before lo hi k l = rw (zero-add k, lt-leb lo k l)

pub within-past : (lo hi k : ℕ) → hi ≤ k → within 0 lo hi k ≡ false
unfolding within
within-past lo hi k h = rw (zero-add k, le-ltb k hi h) (and-false (leb lo k))

pub within_none : (lo hi k : ℕ) → hi ≤ lo → within 0 lo hi k ≡ false
within_none lo hi k h = dite (dec_le hi k) (λ l. within-past lo hi k l) (λ l. within-before lo hi k (omega arith))

-- a range in two
pub within-join : (a m c k : ℕ) → a ≤ m → m ≤ c → (within 0 a m k || within 0 m c k) ≡ within 0 a c k
within-join a m c k am mc =
    dite (dec_le m k)
    (λ h. dite (dec_le c k)
    (λ l. rw (within-past a c k l, within-past a m k h, within-past m c k l))
    (λ l. rw (within_in a c k (omega arith) (omega arith), within-past a m k h, within_in m c k h (omega arith))))
    (λ h. dite (dec_le a k)
    (λ l. rw (within_in a c k l (omega arith), within_in a m k l (omega arith)))
    (λ l. rw (within-before a c k (omega arith), within-before a m k (omega arith), within-before m c k (omega arith))))

-- ---- numbers OR-ed

pub or-join : (a b c : ℕ) → bit_or (bit_or a b) c ≡ bit_or a (bit_or b c)
or-join a =
    bin_ind (λ (n : ℕ). (b c : ℕ) → bit_or (bit_or n b) c ≡ bit_or n (bit_or b c)) (λ b c. refl)
    (λ n ih b c.
    let left = or_step n b in
    let right = or_step b c in
    let lh : bit_or n b / 2 ≡ bit_or (n / 2) (b / 2) = omega arith in
    let ll : bit_or n b % 2 ≡ max (n % 2) (b % 2) = omega arith in
    let rh : bit_or b c / 2 ≡ bit_or (b / 2) (c / 2) = omega arith in
    let rl : bit_or b c % 2 ≡ max (b % 2) (c % 2) = omega arith in
    let first : bit_or (bit_or n b) c ≡ bit_or (bit_or (n / 2) (b / 2)) (c / 2) * 2 + max (max (n % 2) (b % 2)) (c % 2) = or_step (bit_or n b) c ∙ rw (lh, ll) in
    let last : bit_or n (bit_or b c) ≡ bit_or (n / 2) (bit_or (b / 2) (c / 2)) * 2 + max (n % 2) (max (b % 2) (c % 2)) = or_step n (bit_or b c) ∙ rw (rh, rl) in
    omega (arith, first, last, ih (b / 2) (c / 2)))
    a

-- n bits OR-ed with n ones
pub or-ones : (n x : ℕ) → x < 2 ^ n → bit_or x (2 ^ n - 1) ≡ 2 ^ n - 1
or-ones n x h = omega (arith, or_add_and x (2 ^ n - 1), and_mask x n, mod-eq_of_lt h)

-- ---- the words of tests

pub from_or : (p q : ℕ → Bool) (n i : ℕ) → bit_or (word_from p n i) (word_from q n i) ≡ word_from (λ j. p j || q j) n i
unfolding word_from slots_from word_of
from_or p q zero i = refl
from_or p q (suc n) i = rw (or_step, bit_below (p i), bit_below (q i), bits_above (p i), bits_above (q i), from_or p q n (suc i)) (go (p i) (q i))
  where
    r : ℕ
    r = word_from (λ j. p j || q j) n (suc i)

    go : (t u : Bool) → r * 2 + max (one t) (one u) ≡ one (t || u) + 2 * r
    go true true = omega arith
    go true false = omega arith
    go false true = omega arith
    go false false = omega arith

-- slots that pass are ones
pub from-full-ones : (p : ℕ → Bool) (n i : ℕ) → All p true i (i + n) → word_from p n i ≡ 2 ^ n - 1
unfolding word_from slots_from word_of
from-full-ones p zero i all = refl
from-full-ones p (suc n) i all =
    rw (all.at i (omega arith) (omega arith), from-full-ones p n (suc i) (record { at = λ j a l. all.at j (omega arith) (omega arith) }), pow-suc) (omega (arith, pow_pos n))

-- a range is a number of ones above zeros
pub from-within : (n i a e : ℕ) → a ≤ e → e ≤ n → word_from (within 0 (i + a) (i + e)) n i ≡ 2 ^ e - 2 ^ a
from-within n i a e h l = go (e - a) (n - e) (omega arith) (omega arith)
  where
    p : ℕ → Bool
    p = within 0 (i + a) (i + e)

    go : (k m : ℕ) → n ≡ a + (k + m) → e ≡ k + a → word_from p n i ≡ 2 ^ e - 2 ^ a
    go k m f g =
        let low : word_from p a i ≡ 0 = from-none p a i (record { at = λ j b c. within-before (i + a) (i + e) j c }) in
        let top : word_from p m (i + a + k) ≡ 0 = from-none p m (i + a + k) (record { at = λ j b c. within-past (i + a) (i + e) j (omega arith) }) in
        let ones : word_from p k (i + a) ≡ 2 ^ k - 1 = from-full-ones p k (i + a) (record { at = λ j b c. within_in (i + a) (i + e) j b (omega arith) }) in
        ap (λ (z : ℕ). word_from p z i) f ∙ rw (from-cat p a (k + m) i, from-cat p k m (i + a), low, top, ones, zero-mul, zero-add, add-zero) (sym (high_ones k a)) ∙ ap (λ (z : ℕ). 2 ^ z - 2 ^ a) (sym g)

-- as code makes it
pub ones_above : (a e : ℕ) → a ≤ e → e < 64 → (1 * 2 ^ a % 2 ^ 64 ≤ 1 * 2 ^ e % 2 ^ 64) × (1 * 2 ^ e % 2 ^ 64 - 1 * 2 ^ a % 2 ^ 64 ≡ 2 ^ e - 2 ^ a)
ones_above a e h l = rw (one_shl a 64 (omega arith), one_shl e 64 l) (pow_mono h, refl)

pub ones-byte : (a e : ℕ) → e ≤ 8 → 2 ^ e - 2 ^ a < 256
ones-byte a e h = omega (arith, pow_mono h, pow_pos a)
