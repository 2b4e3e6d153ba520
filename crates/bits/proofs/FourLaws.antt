-- The loop of `compress`: what a mask gathers, by fours from the highest, and where the fours' entries stand in the tables. Assumes nothing.
use Prim.Native.Nat.{ℕ, zero, suc, ◌+◌, ◌-◌, ◌*◌, ◌/◌, ◌%◌, ◌^◌, ◌≤◌, ◌<◌}
use mathlib.Core.List.{List}
use mathlib.Core.Path.{◌≡◌, refl, sym, ap, ◌∙◌}
use native.Mathlib.Nat.{add_comm, mod-lt, lt_of_lt_of_le, div-one}
use native.Mathlib.Omega.{arith}
use lib.Bits.{bit_and, bit_or, and_mask, and_high, and_shr, and_mod, or_shr, or_mod, or_shifted}
use lib.Count.{ones, ones-le}
use lib.ListN.{length, get_or}
use lib.Pow.{pow_pos, pow_mono, shr-shr, shl_exact, field, mod-mod-pow}
use Rattle.format.specs.Words.{low_bits, word_of, gather, compress}
use Rattle.format.proofs.WordLaws.{length-low, low-add, low-mod, word_lt, word-append, cat-lt, length-gather, gather_append}
use Rattle.bits.specs.Fours.{four_of, count_of, Table}

-- ---- what a mask gathers, by parts

module _ (j value mask : ℕ) where
  -- as many bits are gathered as the mask has
  pub length-picks : length (gather (low_bits j mask) (low_bits j value)) ≡ ones (mask % 2 ^ j)
  length-picks = rw (← low-mod j mask) (length-gather j (mask % 2 ^ j) (low_bits j value) (mod-lt mask (pow_pos j)) (length-low j value))

  ones-part : ones (mask % 2 ^ j) ≤ j
  ones-part = ones-le j (mask % 2 ^ j) (mod-lt mask (pow_pos j))

  pub compress-lt : compress j value mask < 2 ^ ones (mask % 2 ^ j)
  unfolding compress
  compress-lt = rw length-picks at (word_lt (gather (low_bits j mask) (low_bits j value)))

  compress-fits : compress j value mask < 2 ^ j
  compress-fits = lt_of_lt_of_le compress-lt (pow_mono ones-part)

  -- no bit above the j lowest counts
  compress-low : compress j (value % 2 ^ j) (mask % 2 ^ j) ≡ compress j value mask
  unfolding compress
  compress-low = rw (low-mod, low-mod)

-- the k lowest bits below the others
compress-cat : (k n value mask : ℕ)
    → compress (k + n) value mask ≡ compress n (value / 2 ^ k) (mask / 2 ^ k) * 2 ^ ones (mask % 2 ^ k) + compress k value mask
unfolding compress
compress-cat k n value mask =
    rw (low-add k n mask, low-add k n value, gather_append (low_bits k mask) _ (low_bits k value) _ (rw (length-low, length-low)), word-append, length-picks)

-- ---- one entry, put below what was gathered: no bit is shifted out of the word

module _ (k : ℕ) (l : k < 256) where
  count-le : count_of k ≤ 4
  count-le = ones-le 4 (k / 16) (omega arith)

  pub shift-lt : {counts : List ℕ} → Table count_of counts → get_or counts k 0 < 64
  shift-lt counted = omega (arith, counted.entry k l, count-le)

  pub entry_lt : {table : List ℕ} → Table four_of table → get_or table k 0 < 16
  entry_lt rule = rw (rule.entry k l) (compress-fits 4 (k % 16) (k / 16))

  module _ (out : ℕ) (small : out < 2 ^ 60) where
    pub added : {table counts : List ℕ} → Table four_of table → Table count_of counts
        → (out * 2 ^ get_or counts k 0) % 2 ^ 64 + get_or table k 0 ≡ out * 2 ^ count_of k + four_of k
    added rule counted = rw (rule.entry k l, counted.entry k l, shl_exact 60 (count_of k) 64 small (omega (arith, count-le)))

    pub added-lt : out * 2 ^ count_of k + four_of k < 2 ^ 64
    added-lt =
        let whole : k / 16 % 16 ≡ k / 16 = omega arith in
        let low : four_of k < 2 ^ count_of k = rw whole at (compress-lt 4 (k % 16) (k / 16)) in
        let width : count_of k + 60 ≤ 64 = omega (arith, count-le) in
        lt_of_lt_of_le (cat-lt (count_of k) 60 out (four_of k) low small) (pow_mono width)

-- ---- where the entries stand, in all bytes at once

-- the byte at bit `at` of two words joined, whose masks have there the high and the low four bits
pairs : (x y c d at : ℕ) → c / 2 ^ at % 2 ^ 8 ≡ 240 → d / 2 ^ at % 2 ^ 8 ≡ 15
    → bit_or (bit_and x c) (bit_and y d) / 2 ^ at % 2 ^ 8 ≡ 16 * (x / 2 ^ at / 16 % 16) + y / 2 ^ at % 16
pairs x y c d at ec ed =
    let n = x / 2 ^ at in
    let k = y / 2 ^ at in
    let high : bit_and x c / 2 ^ at % 2 ^ 8 ≡ n % 2 ^ 8 / 16 % 16 * 16 =
    ap (◌% 2 ^ 8) (and_shr x c at) ∙ and_mod n (c / 2 ^ at) 8 ∙ ap (bit_and (n % 2 ^ 8)) ec ∙ and_high (n % 2 ^ 8) 4 4 in
    let low : bit_and y d / 2 ^ at % 2 ^ 8 ≡ k % 2 ^ 8 % 16 =
    ap (◌% 2 ^ 8) (and_shr y d at) ∙ and_mod k (d / 2 ^ at) 8 ∙ ap (bit_and (k % 2 ^ 8)) ed ∙ and_mask (k % 2 ^ 8) 4 in
    ap (◌% 2 ^ 8) (or_shr (bit_and x c) (bit_and y d) at)
    ∙ or_mod (bit_and x c / 2 ^ at) (bit_and y d / 2 ^ at) 8
    ∙ rw (high, low) (or_shifted (n % 2 ^ 8 / 16 % 16) 4 (k % 2 ^ 8 % 16) (omega arith) ∙ omega arith)

-- the high four bits of each byte, and the low ones
abbrev high-fours : ℕ
high-fours = 0xF0F0_F0F0_F0F0_F0F0

abbrev low-fours : ℕ
low-fours = 0x0F0F_0F0F_0F0F_0F0F

patterns : (i : ℕ) → i < 8 → (high-fours / 2 ^ (8 * i) % 2 ^ 8 ≡ 240) × (low-fours / 2 ^ (8 * i) % 2 ^ 8 ≡ 15)
patterns zero l = (refl, refl)
patterns (suc zero) l = (refl, refl)
patterns (suc (suc zero)) l = (refl, refl)
patterns (suc (suc (suc zero))) l = (refl, refl)
patterns (suc (suc (suc (suc zero)))) l = (refl, refl)
patterns (suc (suc (suc (suc (suc zero))))) l = (refl, refl)
patterns (suc (suc (suc (suc (suc (suc zero)))))) l = (refl, refl)
patterns (suc (suc (suc (suc (suc (suc (suc zero))))))) l = (refl, refl)
patterns (suc (suc (suc (suc (suc (suc (suc (suc i)))))))) l = absurd (omega arith)

-- the place of the fours of mask and value from bit `at` up
abbrev pub place_at : ℕ → ℕ → ℕ → ℕ
place_at value mask at = 16 * (mask / 2 ^ at % 16) + value / 2 ^ at % 16

module _ (value mask i : ℕ) (l : i < 8) where
  -- of the high fours of byte i
  pub place-high : bit_or (bit_and mask high-fours) (bit_and (value / 2 ^ 4) low-fours) / 2 ^ (8 * i) % 2 ^ 8 ≡ place_at value mask (8 * i + 4)
  place-high =
      let m : mask / 2 ^ (8 * i) / 16 ≡ mask / 2 ^ (8 * i + 4) = shr-shr mask (8 * i) 4 in
      let v : value / 2 ^ 4 / 2 ^ (8 * i) ≡ value / 2 ^ (8 * i + 4) = shr-shr value 4 (8 * i) ∙ ap (λ (k : ℕ). value / 2 ^ k) (add_comm 4 (8 * i)) in
      pairs mask (value / 2 ^ 4) high-fours low-fours (8 * i) (patterns i l).0 (patterns i l).1 ∙ rw (m, v) refl

  -- what the highest four bits of a word hide of it
  fourth : mask % 2 ^ 60 / 2 ^ (8 * i) % 2 ^ 4 ≡ mask / 2 ^ (8 * i) % 2 ^ 4
  fourth =
      let e : 60 ≡ 60 - 8 * i + 8 * i = omega arith in
      let f : 60 - 8 * i ≡ 56 - 8 * i + 4 = omega arith in
      ap (λ (k : ℕ). mask % 2 ^ k / 2 ^ (8 * i) % 2 ^ 4) e
      ∙ ap (◌% 2 ^ 4) (field mask (60 - 8 * i) (8 * i))
      ∙ ap (λ (k : ℕ). mask / 2 ^ (8 * i) % 2 ^ k % 2 ^ 4) f
      ∙ mod-mod-pow (mask / 2 ^ (8 * i)) (56 - 8 * i) 4

  -- and of its low ones
  pub place-low : bit_or (bit_and ((mask * 2 ^ 4) % 2 ^ 64) high-fours) (bit_and value low-fours) / 2 ^ (8 * i) % 2 ^ 8 ≡ place_at value mask (8 * i)
  place-low =
      let x = (mask * 2 ^ 4) % 2 ^ 64 in
      let cut : x / 2 ^ 4 ≡ mask % 2 ^ 60 = omega arith in
      let m : x / 2 ^ (8 * i) / 16 ≡ mask % 2 ^ 60 / 2 ^ (8 * i) =
      shr-shr x (8 * i) 4 ∙ ap (λ (k : ℕ). x / 2 ^ k) (add_comm (8 * i) 4) ∙ sym (shr-shr x 4 (8 * i)) ∙ ap (◌/ 2 ^ (8 * i)) cut in
      pairs x value high-fours low-fours (8 * i) (patterns i l).0 (patterns i l).1 ∙ rw m (ap (λ (k : ℕ). 16 * k + value / 2 ^ (8 * i) % 16) fourth)

-- ---- the loop

-- the bits from bit `at` up are gathered
pub record Gathered (value mask at out : ℕ) : Type 0 where
  pub inside : at ≤ 64
  pub out-is : out ≡ compress (64 - at) (value / 2 ^ at) (mask / 2 ^ at)

pub begun : (value mask : ℕ) → Gathered value mask 64 0
unfolding compress low_bits gather word_of
begun value mask = record { inside = omega arith; out-is = refl }

module _ {value mask at out : ℕ} (g : Gathered value mask at out) where
  -- there is room for four bits more
  pub room : 4 ≤ at → out < 2 ^ 60
  room l =
      let width : 64 - at ≤ 60 = omega arith in
      rw g.out-is (lt_of_lt_of_le (compress-fits (64 - at) _ _) (pow_mono width))

  -- the entry of the four bits below comes below
  pub turn : (to place r : ℕ) → at ≡ to + 4 → place ≡ place_at value mask to → r ≡ out * 2 ^ count_of place + four_of place → Gathered value mask to r
  turn to place r below is e =
      let m = mask / 2 ^ to % 16 in
      let v = value / 2 ^ to % 16 in
      let high : place / 16 ≡ m = omega arith in
      let low : place % 16 ≡ v = omega arith in
      let back : (x : ℕ) → x / 2 ^ to / 2 ^ 4 ≡ x / 2 ^ at = λ x. shr-shr x to 4 ∙ ap (λ (k : ℕ). x / 2 ^ k) (sym below) in
      let wide : 64 - to ≡ 4 + (64 - at) = omega (arith, g.inside) in
      let next : out * 2 ^ ones m + compress 4 v m ≡ compress (64 - to) (value / 2 ^ to) (mask / 2 ^ to) =
      rw (wide, compress-cat 4 (64 - at), back, back, ← g.out-is) (ap (out * 2 ^ ones m +◌) (compress-low 4 (value / 2 ^ to) (mask / 2 ^ to))) in
      record { inside = omega (arith, g.inside); out-is = rw (e, high, low) next }

  pub done : at ≡ 0 → out ≡ compress 64 value mask
  done e = rw (e, div-one, div-one) at g.out-is
