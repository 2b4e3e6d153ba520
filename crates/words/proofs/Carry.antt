-- The lowest run of set bits: the lowest bit added to the word, the carry clears the run and sets the bit above it. Assumes nothing.
use Rattle.std.proofs.Common.{◌≡◌, ℕ, zero, suc, ◌+◌, ◌-◌, ◌*◌, ◌/◌, ◌%◌, ◌^◌, ◌<◌, ◌≤◌, false, ◌∷◌, ◌++◌, length, refl, ap, ◌∙◌, ⊎_elim, add-zero, mod-eq_of_lt, zero-lt-suc, arith, length-append}
use mathlib.Core.Logic.{dite}
use native.Mathlib.Decide.{dec_lt}
use native.Mathlib.Nat.{zero-min, min-zero}
use lib.Arith.{lt-one}
use lib.Bits.{bit_and, and_step, and_self, and_le_l}
use lib.Count.{count_trailing_zeros, trailing_le}
use lib.Pow.{mod-pow-add}
use Rattle.format.specs.Bytes.{one}
use Rattle.format.specs.Rows.{set_rows, Below, more}
use Rattle.format.specs.Slots.{count_up}
use Rattle.format.specs.Words.{low_bits, gather}
use Rattle.format.proofs.RowLaws.{below_left, below_right}
use Rattle.format.proofs.SlotLaws.{length_up}
use Rattle.format.proofs.WordLaws.{parity, half_lt, bits_above, odd-below}
use Rattle.words.specs.Run.{LowestRun}

-- a number cut to n + 1 bits: its half, and its lowest bit
cut : (n x y : ℕ) → y ≡ x % 2 ^ suc n → (y / 2 ≡ x / 2 % 2 ^ n) × (y % 2 ≡ x % 2)
cut n x y e =
    let w : suc n ≡ n + 1 = omega arith in
    let parts : y ≡ (x / 2 % 2 ^ n) * 2 + x % 2 = e ∙ ap (λ (k : ℕ). x % 2 ^ k) w ∙ mod-pow-add x n 1 in
    (omega arith, omega arith)

-- two numbers ANDed, the second even
and-even : (a b : ℕ) → b % 2 ≡ 0 → bit_and a b ≡ one false + 2 * bit_and (a / 2) (b / 2)
and-even a b e = rw (and_step a b, e, min-zero) (omega arith)

-- 1 added: the ones at the low end are cleared
ones-off : (n h y i : ℕ) → h < 2 ^ n → y ≡ (h + 1) % 2 ^ n
    → gather (low_bits n h) (count_up n i) ≡ count_up (count_trailing_zeros n y) i ++ gather (low_bits n (bit_and h y)) (count_up n i)
unfolding low_bits gather count_trailing_zeros count_up
ones-off zero h y i l e = refl
ones-off (suc n) h y i l e =
    let (yh, yl) = cut n (h + 1) y e in
    ⊎_elim
    (λ (z : h % 2 ≡ 0).
    let b : (h + 1) / 2 ≡ h / 2 = omega arith in
    let q : y / 2 ≡ h / 2 = yh ∙ ap (λ (k : ℕ). k % 2 ^ n) b ∙ mod-eq_of_lt (half_lt h n l) in
    let o : y % 2 ≡ 1 = omega arith in
    let same : bit_and h y ≡ h = rw (and_step h y, q, z, and_self, zero-min) (omega arith) in
    rw (o, same))
    (λ (z : h % 2 ≡ 1).
    let b : (h + 1) / 2 ≡ h / 2 + 1 = omega arith in
    let q : y / 2 ≡ (h / 2 + 1) % 2 ^ n = yh ∙ ap (λ (k : ℕ). k % 2 ^ n) b in
    let o : y % 2 ≡ 0 = omega arith in
    rw (and-even h y o, bits_above false, odd-below false, o, z) (ap (i ∷◌) (ones-off n (h / 2) (y / 2) (suc i) (half_lt h n l) q)))
    (parity h)

clear-odd : (m : ℕ) → m % 2 ≡ 1 → bit_and m (m - 1) ≡ m - 1
clear-odd m e =
    let h : (m - 1) / 2 ≡ m / 2 = omega arith in
    let l : (m - 1) % 2 ≡ 0 = omega arith in
    rw (and_step m, h, l, and_self, min-zero) (omega arith)

clear-even : (m : ℕ) → m % 2 ≡ 0 → 0 < m → bit_and m (m - 1) ≡ 2 * bit_and (m / 2) (m / 2 - 1)
clear-even m e p =
    let h : (m - 1) / 2 ≡ m / 2 - 1 = omega arith in
    rw (and_step m, h, e, zero-min) (omega arith)

trailing_odd : (n x : ℕ) → x % 2 ≡ 1 → count_trailing_zeros (suc n) x ≡ 0
unfolding count_trailing_zeros
trailing_odd n x e = rw e

trailing_even : (n x : ℕ) → x % 2 ≡ 0 → count_trailing_zeros (suc n) x ≡ suc (count_trailing_zeros n (x / 2))
unfolding count_trailing_zeros
trailing_even n x e = rw e

-- m without its lowest run, which starts at bit t and ends before bit k
record Off (n m y i t k : ℕ) : Type 0 where
  up : t < k
  rows : gather (low_bits n m) (count_up n i) ≡ count_up (k - t) (i + t) ++ gather (low_bits n (bit_and m y)) (count_up n i)

-- below an even bit
off-even : (n m y i t k : ℕ) → m % 2 ≡ 0 → y % 2 ≡ 0 → Off n (m / 2) (y / 2) (suc i) t k → Off (suc n) m y i (suc t) (suc k)
unfolding low_bits gather count_up
off-even n m y i t k z o f =
    let d : suc k - suc t ≡ k - t = omega arith in
    let s : i + suc t ≡ suc i + t = omega arith in
    record { up = omega (arith, f.up); rows = rw (and-even m y o, bits_above false, odd-below false, z, d, s) f.rows }

-- the lowest bit added: the lowest run is cleared
run-off : (n m y i : ℕ) → 0 < m → m < 2 ^ n → y ≡ (m + (m - bit_and m (m - 1))) % 2 ^ n → Off n m y i (count_trailing_zeros n m) (count_trailing_zeros n y)
run-off zero m y i p l e = absurd (omega (arith, lt-one l))
run-off (suc n) m y i p l e =
    let (yh, yl) = cut n (m + (m - bit_and m (m - 1))) y e in
    ⊎_elim
    (λ (z : m % 2 ≡ 0).
    let c = clear-even m z p in
    let below = and_le_l (m / 2) (m / 2 - 1) in
    let b : (m + (m - bit_and m (m - 1))) / 2 ≡ m / 2 + (m / 2 - bit_and (m / 2) (m / 2 - 1)) = omega arith in
    let q : y / 2 ≡ (m / 2 + (m / 2 - bit_and (m / 2) (m / 2 - 1))) % 2 ^ n = yh ∙ ap (λ (k : ℕ). k % 2 ^ n) b in
    let o : y % 2 ≡ 0 = omega arith in
    rw (trailing_even n m z, trailing_even n y o) (off-even n m y i _ _ z o (run-off n (m / 2) (y / 2) (suc i) (omega arith) (half_lt m n l) q)))
    (λ (z : m % 2 ≡ 1).
    let c = clear-odd m z in
    let o : y % 2 ≡ 0 = omega arith in
    let f : y ≡ (m + 1) % 2 ^ suc n = e ∙ ap (λ (k : ℕ). (m + k) % 2 ^ suc n) (omega arith) in
    let all : count_trailing_zeros (suc n) y - 0 ≡ count_trailing_zeros (suc n) y = omega arith in
    let up : 0 < count_trailing_zeros (suc n) y = rw (trailing_even n y o) (zero-lt-suc _) in
    rw (trailing_odd n m z) (record { up = up; rows = rw (add-zero, all) (ones-off (suc n) m y i l f) }))
    (parity m)

pub lowest-run : (base m c y : ℕ) → 0 < m → m < 2 ^ 64 → c ≡ bit_and m (m - 1) → y ≡ (m + (m - c)) % 2 ^ 64
    → LowestRun base m (base + count_trailing_zeros 64 m) (base + count_trailing_zeros 64 y) (bit_and m y)
unfolding set_rows
lowest-run base m c y p l ec ey =
    let off : (base : ℕ) → Off 64 m y base (count_trailing_zeros 64 m) (count_trailing_zeros 64 y) = λ base. run-off 64 m y base p l (ey ∙ ap (λ (k : ℕ). (m + (m - k)) % 2 ^ 64) ec) in
    let wide : base + count_trailing_zeros 64 y - (base + count_trailing_zeros 64 m) ≡ count_trailing_zeros 64 y - count_trailing_zeros 64 m = omega arith in
    record {
      low = omega arith;
      filled = omega (arith, (off 0).up);
      high = omega (arith, trailing_le 64 y);
      less = smaller (off 0);
      rows = rw wide (off base).rows;
    }
  where
    smaller : Off 64 m y 0 (count_trailing_zeros 64 m) (count_trailing_zeros 64 y) → bit_and m y < m
    smaller f =
        dite (dec_lt (bit_and m y) m) (λ h. h)
        (λ h. let same : bit_and m y ≡ m = omega (arith, and_le_l m y) in
        let long = ap length f.rows ∙ length-append (count_up (count_trailing_zeros 64 y - count_trailing_zeros 64 m) (0 + count_trailing_zeros 64 m)) _ in
        let run = length_up (count_trailing_zeros 64 y - count_trailing_zeros 64 m) (0 + count_trailing_zeros 64 m) in
        let again : length (gather (low_bits 64 (bit_and m y)) (count_up 64 0)) ≡ length (gather (low_bits 64 m) (count_up 64 0)) = ap (λ (x : ℕ). length (gather (low_bits 64 x) (count_up 64 0))) same in
        absurd (omega (arith, f.up)))

-- ---- the rows of a word, its lowest run off

below_last : (len n a : ℕ) → 0 < n → Below len (count_up n a) → a + n ≤ len
unfolding count_up
below_last len zero a p h = absurd (omega arith)
below_last len (suc zero) a p (more h g) = omega arith
below_last len (suc (suc n)) a p (more h g) = omega (arith, below_last len (suc n) (suc a) (omega arith) g)

module _ {base word from to rest : ℕ} (h : LowestRun base word from to rest) {len : ℕ} (below : Below len (set_rows base word)) where
  parts : Below len (count_up (to - from) from ++ set_rows base rest)
  parts = rw h.rows at below

  pub run-below : to ≤ len
  run-below = omega (arith, below_last len (to - from) from (omega (arith, h.filled)) (below_left (count_up (to - from) from) _ parts), h.filled)

  pub rest_below : Below len (set_rows base rest)
  rest_below = below_right (count_up (to - from) from) _ parts
