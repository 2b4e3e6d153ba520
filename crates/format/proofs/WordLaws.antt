-- Laws of words: a number and the list of its bits, what a mask gathers, its lowest set bit, and the word of the tests of n slots. Each holds at every width. Assumes nothing.
use Rattle.std.proofs.Common.{◌≡◌, ℕ, zero, suc, ◌+◌, ◌-◌, ◌*◌, ◌/◌, ◌%◌, ◌^◌, ◌<◌, ◌≤◌, min, Bool, true, false, ◌&&◌, eqb, ◌⊎◌, List, [], ◌∷◌, ◌++◌, map, length, get_or, take, drop, sym, refl, ap, ◌∙◌, inl, inr, ⊎_elim, append-nil, lt_of_lt_of_le, lt_of_le_of_lt, add-zero, mod-lt, mod-eq_of_lt, zero-lt-suc, mul_assoc, eq-zero-or-pos, add_comm, suc-add, one-mul, pow-suc, zero-add, zero-mul, div-one, add-one, one-add, arith, take_all, take_at, pow_pos, pow_mono, pow-add, shl_exact, shr-shr}
use native.Mathlib.Nat.{zero-min, min-zero, div-eq_of_lt, mul-mod_left}
use lib.Arith.{digits_lt, lt-one}
use lib.Bits.{bit_and, bit_or, and_step, and_self, and_le_l, and_le_r, or_shifted_r, block_half, block_odd}
use lib.Count.{ones, ones_step, count_trailing_zeros, under}
use lib.Pow.{shl-shr, high, low, mod-pow-add, split}
use Rattle.format.specs.Bytes.{one, sum_below, le, bit_in}
use Rattle.format.specs.Words.{odd, low_bits, word_of, gather}
use Rattle.format.specs.Slots.{slots_from, word_from, up_to, after, pick, picks_from, count_up, All}
use Rattle.format.proofs.SlotLaws.{all_none, all_one, all_join, up_to-is, up_to-past, after_is, after-not, length-slots, slots-cat, slots-ext, slots-shift, take-slots, length_up}

-- ---- one bit, and a half

pub one-lt : (t : Bool) → one t < 2
one-lt true = omega arith
one-lt false = omega arith

pub parity : (x : ℕ) → (x % 2 ≡ 0) ⊎ (x % 2 ≡ 1)
parity x = go (x % 2) (mod-lt x (zero-lt-suc 1))
  where
    go : (r : ℕ) → r < 2 → (r ≡ 0) ⊎ (r ≡ 1)
    go zero h = inl refl
    go (suc r) h = inr (omega arith)

pub one-odd : (x : ℕ) → one (odd x) ≡ x % 2
one-odd x = ⊎_elim (λ (e : x % 2 ≡ 0). rw e) (λ (e : x % 2 ≡ 1). rw e) (parity x)

-- a number of one bit and the bits above it
module _ (t : Bool) (x : ℕ) where
  pub bit_below : (one t + 2 * x) % 2 ≡ one t
  bit_below = omega (arith, one-lt t)

  pub bits_above : (one t + 2 * x) / 2 ≡ x
  bits_above = omega (arith, one-lt t)

  pub odd-below : odd (one t + 2 * x) ≡ t
  odd-below = rw bit_below (go t)
    where
      go : (t : Bool) → eqb (one t) 1 ≡ t
      go true = refl
      go false = refl

half_pow : (x k : ℕ) → x / 2 / 2 ^ k ≡ x / 2 ^ suc k
half_pow x k = shr-shr x 1 k ∙ ap (λ (n : ℕ). x / 2 ^ n) (one-add k)

pub half_lt : (x k : ℕ) → x < 2 ^ suc k → x / 2 < 2 ^ k
half_lt x k h = let l : x < 2 ^ k * 2 = rw pow-suc at h in omega arith

-- ---- numbers and lists of bits

pub length-low : (n x : ℕ) → length (low_bits n x) ≡ n
unfolding low_bits
length-low zero x = refl
length-low (suc n) x = ap suc (length-low n (x / 2))

-- the low a bits, then the b bits above them
pub low-add : (a b x : ℕ) → low_bits (a + b) x ≡ low_bits a x ++ low_bits b (x / 2 ^ a)
unfolding low_bits
low-add zero b x = rw (zero-add, div-one)
low-add (suc a) b x = rw (suc-add, ← half_pow) (ap (odd x ∷◌) (low-add a b (x / 2)))

pub take-low : (n w x : ℕ) → n ≤ w → take n (low_bits w x) ≡ low_bits n x
take-low n w x h =
    let e : w ≡ n + (w - n) = omega arith in
    rw (e, low-add) (take_at (low_bits n x) _ n (length-low n x))

pub word_low : (n x : ℕ) → x < 2 ^ n → word_of (low_bits n x) ≡ x
unfolding low_bits word_of
word_low zero x h = sym (lt-one h)
word_low (suc n) x h = rw (word_low n (x / 2) (half_lt x n h), one-odd) (omega arith)

pub low_word : (ts : List Bool) → low_bits (length ts) (word_of ts) ≡ ts
unfolding low_bits word_of
low_word [] = refl
low_word (t ∷ ts) = rw (odd-below, bits_above, low_word ts)

pub word_lt : (ts : List Bool) → word_of ts < 2 ^ length ts
unfolding word_of
word_lt [] = zero-lt-suc 0
word_lt (t ∷ ts) = rw pow-suc (omega (arith, word_lt ts, one-lt t))

pub word_mod : (w : ℕ) (ts : List Bool) → length ts ≤ w → word_of ts % 2 ^ w ≡ word_of ts
word_mod w ts l = mod-eq_of_lt (lt_of_lt_of_le (word_lt ts) (pow_mono l))

pub word-append : (xs ys : List Bool) → word_of (xs ++ ys) ≡ word_of ys * 2 ^ length xs + word_of xs
unfolding word_of
word-append [] ys = omega arith
word-append (x ∷ xs) ys = rw (word-append xs ys, pow-suc, ← mul_assoc) (omega arith)

-- the first n bits of a list, and the others
pub word-drop : (n : ℕ) (ts : List Bool) → word_of (drop n ts) ≡ word_of ts / 2 ^ n
unfolding word_of
word-drop zero ts = sym (div-one (word_of ts))
word-drop (suc n) [] = sym (div-eq_of_lt (pow_pos (suc n)))
word-drop (suc n) (t ∷ ts) = rw (← half_pow, bits_above, word-drop n ts)

pub word-take : (n : ℕ) (ts : List Bool) → word_of (take n ts) ≡ word_of ts % 2 ^ n
unfolding word_of
word-take zero ts = omega arith
word-take (suc n) [] = sym (mod-eq_of_lt (pow_pos (suc n)))
word-take (suc n) (t ∷ ts) =
    let e : suc n ≡ n + 1 = omega arith in
    rw (word-take n ts, e, mod-pow-add _ n 1, bits_above, bit_below) (omega arith)

-- bit i of a list is that of its word
pub get_or-word : (ts : List Bool) (i : ℕ) → get_or ts i false ≡ odd (word_of ts / 2 ^ i)
unfolding word_of
get_or-word [] i = rw (div-eq_of_lt (pow_pos i))
get_or-word (t ∷ ts) zero = rw (div-one, odd-below)
get_or-word (t ∷ ts) (suc i) = rw (← half_pow, bits_above) (get_or-word ts i)

-- what stands above the k low bits does not change them
low-above : (k hi lo : ℕ) → low_bits k (hi * 2 ^ k + lo) ≡ low_bits k lo
unfolding low_bits
low-above zero hi lo = refl
low-above (suc k) hi lo = rw (block_odd, block_half) (ap (odd lo ∷◌) (low-above k hi (lo / 2)))

pub low-mod : (k x : ℕ) → low_bits k (x % 2 ^ k) ≡ low_bits k x
low-mod k x = sym (low-above k (x / 2 ^ k) (x % 2 ^ k)) ∙ rw split

-- ---- `lo | (hi << f)` in a word of w bits

-- a number of n bits above one of f bits
pub cat-lt : (f n hi lo : ℕ) → lo < 2 ^ f → hi < 2 ^ n → hi * 2 ^ f + lo < 2 ^ (f + n)
cat-lt f n hi lo h l = rw (add_comm f n, pow-add) (digits_lt l h)

wide-mod : (j f hi lo : ℕ) → lo < 2 ^ f → (hi * 2 ^ f + lo) % 2 ^ (j + f) ≡ (hi % 2 ^ j) * 2 ^ f + lo
wide-mod j f hi lo h = rw (mod-pow-add, high hi f h, low hi f h)

pub or-shl : (w f hi lo : ℕ) → f ≤ w → lo < 2 ^ f → bit_or lo ((hi * 2 ^ f) % 2 ^ w) ≡ (hi * 2 ^ f + lo) % 2 ^ w
or-shl w f hi lo l h =
    let j = w - f in
    let width : w ≡ j + f = omega arith in
    let shifted : (hi * 2 ^ f) % 2 ^ (j + f) ≡ (hi % 2 ^ j) * 2 ^ f = simp add-zero at (wide-mod j f hi 0 (pow_pos f)) in
    rw (width, shifted, or_shifted_r (hi % 2 ^ j) f lo h, wide-mod j f hi lo h)

-- what of hi is shifted out of a word of f + (1 + n) bits
pub shifted-out : (f n hi lo : ℕ) → lo < 2 ^ f → (hi * 2 ^ f + lo) / 2 ^ (f + (1 + n)) ≡ hi / 2 / 2 ^ n
shifted-out f n hi lo h = rw (← shr-shr, high hi f h) (sym (shr-shr hi 1 n))

-- a one moved within a word of w bits
pub one_shl : (k w : ℕ) → k < w → 1 * 2 ^ k % 2 ^ w ≡ 2 ^ k
one_shl k w h = shl_exact 1 k w (omega arith) (omega arith) ∙ one-mul _

-- ---- what a mask gathers

module _ {A : Type 0} where
  pub length-gather : (n m : ℕ) (xs : List A) → m < 2 ^ n → length xs ≡ n → length (gather (low_bits n m) xs) ≡ ones m
  unfolding low_bits gather ones
  length-gather zero m xs h l = rw (lt-one h)
  length-gather (suc n) m [] h l = absurd (omega arith)
  length-gather (suc n) m (x ∷ xs) h l =
      let rest = length-gather n (m / 2) xs (half_lt m n h) (omega arith) in
      ⊎_elim (λ (e : m % 2 ≡ 0). rw (ones_step m, e, zero-add) rest) (λ (e : m % 2 ≡ 1). rw (ones_step m, e, one-add) (ap suc rest)) (parity m)

  -- masks and lists that are made of parts are gathered part by part
  pub gather_append : (ms ns : List Bool) (xs ys : List A) → length ms ≡ length xs → gather (ms ++ ns) (xs ++ ys) ≡ gather ms xs ++ gather ns ys
  unfolding gather
  gather_append [] ns [] ys h = refl
  gather_append [] ns (x ∷ xs) ys h = absurd (omega arith)
  gather_append (m ∷ ms) ns [] ys h = absurd (omega arith)
  gather_append (true ∷ ms) ns (x ∷ xs) ys h = ap (x ∷◌) (gather_append ms ns xs ys (omega arith))
  gather_append (false ∷ ms) ns (x ∷ xs) ys h = gather_append ms ns xs ys (omega arith)

  -- a mask of n ones gathers the first n items
  pub gather_ones : (w n m : ℕ) (xs : List A) → m + 1 ≡ 2 ^ n → n ≤ w → gather (low_bits w m) xs ≡ take n xs
  unfolding low_bits gather
  gather_ones zero zero m xs e l = refl
  gather_ones zero (suc n) m xs e l = absurd (omega arith)
  gather_ones (suc w) zero m [] e l = refl
  gather_ones (suc w) zero m (x ∷ xs) e l = let z : m ≡ 0 = omega arith in rw z (gather_ones w zero 0 xs refl (omega arith))
  gather_ones (suc w) (suc n) m [] e l = refl
  gather_ones (suc w) (suc n) m (x ∷ xs) e l =
      let twice : m + 1 ≡ 2 ^ n * 2 = rw pow-suc at e in
      let o : m % 2 ≡ 1 = omega arith in
      rw (o, gather_ones w n (m / 2) xs (omega arith) (omega arith))

  pub gather_none : (w : ℕ) (xs : List A) → gather (low_bits w 0) xs ≡ []
  gather_none w xs = gather_ones w 0 0 xs refl (omega arith)

  pub gather-all : (w m : ℕ) (xs : List A) → m + 1 ≡ 2 ^ w → length xs ≡ w → gather (low_bits w m) xs ≡ xs
  gather-all w m xs e l = gather_ones w w m xs e (omega arith) ∙ take_all w xs (omega arith)

pub gather-map : {A B : Type 0} (f : A → B) (ms : List Bool) (xs : List A) → gather ms (map f xs) ≡ map f (gather ms xs)
unfolding gather
gather-map f [] xs = refl
gather-map f (m ∷ ms) [] = refl
gather-map f (true ∷ ms) (x ∷ xs) = ap (f x ∷◌) (gather-map f ms xs)
gather-map f (false ∷ ms) (x ∷ xs) = gather-map f ms xs

-- a mask of n bits gathers nothing above them: the zero-filled remainder of a bitmap
pub gather-short : (n k v m : ℕ) → m < 2 ^ n → gather (low_bits (n + k) m) (low_bits (n + k) v) ≡ gather (low_bits n m) (low_bits n v)
gather-short n k v m h =
    simp low-add (rw (gather_append (low_bits n m) _ (low_bits n v) _ (simp length-low), div-eq_of_lt h, gather_none, append-nil))

-- ---- the lowest set bit

-- what `std::num::wrapping_sub_u64(m, 1)` ensures of its result r, at an m that is not 0
pub less_one : (m r : ℕ) → (r + 1) % 2 ^ 64 ≡ m → r < 2 ^ 64 → 0 < m → r ≡ m - 1
less_one m r e h p = omega arith

-- m AND (m less 1), the lowest bit of m apart
clear-odd : (m : ℕ) → m % 2 ≡ 1 → bit_and m (m - 1) ≡ one false + 2 * (m / 2)
clear-odd m e =
    let h : (m - 1) / 2 ≡ m / 2 = omega arith in
    let l : (m - 1) % 2 ≡ 0 = omega arith in
    rw (and_step m, h, l, and_self, min-zero) (omega arith)

clear-even : (m : ℕ) → m % 2 ≡ 0 → 0 < m → bit_and m (m - 1) ≡ one false + 2 * bit_and (m / 2) (m / 2 - 1)
clear-even m e p =
    let h : (m - 1) / 2 ≡ m / 2 - 1 = omega arith in
    rw (and_step m, h, e, zero-min) (omega arith)

pub clear-lt : (m : ℕ) → 0 < m → bit_and m (m - 1) < m
clear-lt m p = omega (arith, and_le_r m (m - 1))

-- the lowest set bit of a number below 2 ^ k is below k
pub trailing_lt : (n k m : ℕ) → 0 < m → m < 2 ^ n → m < 2 ^ k → count_trailing_zeros n m < k
unfolding count_trailing_zeros
trailing_lt zero k m p h l = absurd (omega (arith, lt-one h))
trailing_lt (suc n) zero m p h l = absurd (omega (arith, lt-one l))
trailing_lt (suc n) (suc k) m p h l =
    ⊎_elim (λ (e : m % 2 ≡ 0). rw e (omega (arith, trailing_lt n k (m / 2) (omega arith) (half_lt m n h) (half_lt m k l))))
    (λ (e : m % 2 ≡ 1). rw e (omega arith)) (parity m)

-- the first item gathered is the one at the lowest set bit of the mask; the mask without that bit gathers the others
pub gather-lowest : {A : Type 0} (n m : ℕ) (xs : List A) (d : A) → 0 < m → m < 2 ^ n → count_trailing_zeros n m < length xs
    → gather (low_bits n m) xs ≡ get_or xs (count_trailing_zeros n m) d ∷ gather (low_bits n (bit_and m (m - 1))) xs
unfolding low_bits gather count_trailing_zeros
gather-lowest zero m xs d p h l = absurd (omega (arith, lt-one h))
gather-lowest (suc n) m [] d p h l = absurd (omega arith)
gather-lowest (suc n) m (x ∷ xs) d p h l =
    ⊎_elim
    (λ (e : m % 2 ≡ 0). rw (clear-even m e p, bits_above false, odd-below false, e)
    (gather-lowest n (m / 2) xs d (omega arith) (half_lt m n h) (omega (arith, rw e at l))))
    (λ (e : m % 2 ≡ 1). rw (clear-odd m e, bits_above false, odd-below false, e))
    (parity m)

-- and it has one set bit less
pub ones-clear : (n m : ℕ) → 0 < m → m < 2 ^ n → ones m ≡ suc (ones (bit_and m (m - 1)))
ones-clear n m p h =
    let xs = low_bits n 0 in
    let long = length-low n 0 in
    sym (length-gather n m xs h long)
    ∙ ap length (gather-lowest n m xs false p h (rw long (trailing_lt n n m p h h)))
    ∙ ap suc (length-gather n (bit_and m (m - 1)) xs (lt_of_le_of_lt (and_le_l m (m - 1)) h) long)

-- ---- the word of the tests of n slots

pub low-from : (p : ℕ → Bool) (n i : ℕ) → low_bits n (word_from p n i) ≡ slots_from p n i
unfolding word_from
low-from p n i = rw length-slots at (low_word (slots_from p n i))

pub low-slots : (p : ℕ → Bool) (n w i : ℕ) → n ≤ w → low_bits n (word_from p w i) ≡ slots_from p n i
low-slots p n w i h = sym (take-low n w (word_from p w i) h) ∙ rw low-from (take-slots p w i n h)

pub from-lt : (p : ℕ → Bool) (n i : ℕ) → word_from p n i < 2 ^ n
unfolding word_from
from-lt p n i = rw length-slots at (word_lt (slots_from p n i))

-- the first m slots are the low bits
pub from-cat : (p : ℕ → Bool) (m n i : ℕ) → word_from p (m + n) i ≡ word_from p n (i + m) * 2 ^ m + word_from p m i
unfolding word_from
from-cat p m n i = rw (slots-cat, word-append, length-slots)

pub from-high : (p : ℕ → Bool) (m n i : ℕ) → word_from p (m + n) i / 2 ^ m ≡ word_from p n (i + m)
from-high p m n i = rw from-cat (high _ m (from-lt p m i))

pub from_low : (p : ℕ → Bool) (m n i : ℕ) → word_from p (m + n) i % 2 ^ m ≡ word_from p m i
from_low p m n i = rw from-cat (low _ m (from-lt p m i))

-- only the tests of its slots count
pub from-ext : (p q : ℕ → Bool) (n i : ℕ) → ((j : ℕ) → i ≤ j → j < i + n → p j ≡ q j) → word_from p n i ≡ word_from q n i
unfolding word_from
from-ext p q n i h = ap word_of (slots-ext p q n i h)

-- the test moved by c slots
pub from-shift : (p : ℕ → Bool) (c n i : ℕ) → word_from p n (c + i) ≡ word_from (λ j. p (c + j)) n i
unfolding word_from
from-shift p c n i = ap word_of (slots-shift p c n i)

pub from-and : (p q : ℕ → Bool) (n i : ℕ) → bit_and (word_from p n i) (word_from q n i) ≡ word_from (λ j. p j && q j) n i
unfolding word_from slots_from word_of
from-and p q zero i = refl
from-and p q (suc n) i = rw (and_step, bit_below (p i), bit_below (q i), bits_above (p i), bits_above (q i), from-and p q n (suc i)) (go (p i) (q i))
  where
    r : ℕ
    r = word_from (λ j. p j && q j) n (suc i)

    go : (t u : Bool) → r * 2 + min (one t) (one u) ≡ one (t && u) + 2 * r
    go true true = omega arith
    go true false = omega arith
    go false true = omega arith
    go false false = omega arith

-- bit k is the test of slot i + k
pub from-bit : (p : ℕ → Bool) (n i k : ℕ) → k < n → word_from p n i / 2 ^ k % 2 ≡ one (p (i + k))
unfolding word_from slots_from word_of
from-bit p n i k h =
    let e : n ≡ k + suc (n - suc k) = omega arith in
    rw (e, from-high) (bit_below (p (i + k)) _)

-- the numbers gathered by the word of a test are its picks; and of a second test's word, that test's answers at them
gather-slots : (p : ℕ → Bool) (n i : ℕ) → gather (slots_from p n i) (count_up n i) ≡ picks_from p n i
unfolding gather slots_from count_up picks_from
gather-slots p zero i = refl
gather-slots p (suc n) i = go (p i) (gather-slots p n (suc i))
  where
    go : (t : Bool) → gather (slots_from p n (suc i)) (count_up n (suc i)) ≡ picks_from p n (suc i)
        → gather (t ∷ slots_from p n (suc i)) (i ∷ count_up n (suc i)) ≡ pick t i (picks_from p n (suc i))
    go true ih = ap (i ∷◌) ih
    go false ih = ih

pub gather-from : (p : ℕ → Bool) (n i : ℕ) → gather (low_bits n (word_from p n i)) (count_up n i) ≡ picks_from p n i
gather-from p n i = rw low-from (gather-slots p n i)

-- so the set bits are as many as the picks
pub from-ones : (p : ℕ → Bool) (n i : ℕ) → ones (word_from p n i) ≡ length (picks_from p n i)
from-ones p n i = sym (length-gather n (word_from p n i) (count_up n i) (from-lt p n i) (length_up n i)) ∙ ap length (gather-from p n i)

-- slots that fail are zeros
pub from-none : (p : ℕ → Bool) (n i : ℕ) → All p false i (i + n) → word_from p n i ≡ 0
unfolding word_from slots_from word_of
from-none p zero i all = refl
from-none p (suc n) i all =
    rw (all.at i (omega arith) (omega arith), from-none p n (suc i) (record { at = λ j a l. all.at j (omega arith) (omega arith) }))

pub from_zero : (p : ℕ → Bool) (n i : ℕ) → word_from p n i ≡ 0 → All p false i (i + n)
unfolding word_from slots_from word_of
from_zero p zero i h = all_none (omega arith)
from_zero p (suc n) i h =
    let m : i + suc n ≡ suc i + n = omega arith in
    rw m (all_join (all_one (fails (p i) (omega arith))) (rw add-one (from_zero p n (suc i) (omega arith))))
  where
    fails : (t : Bool) → one t ≡ 0 → t ≡ false
    fails true e = absurd (omega arith)
    fails false e = refl

-- a word of ones: every slot passes
pub from_all : (p : ℕ → Bool) (n i : ℕ) → word_from p n i + 1 ≡ 2 ^ n → All p true i (i + n)
unfolding word_from slots_from word_of
from_all p zero i h = all_none (omega arith)
from_all p (suc n) i h =
    let m : i + suc n ≡ suc i + n = omega arith in
    let twice : one (p i) + 2 * word_from p n (suc i) + 1 ≡ 2 ^ n * 2 = rw pow-suc at h in
    let q : one (p i) ≡ 1 = omega (arith, one-lt (p i)) in
    rw m (all_join (all_one (passes (p i) q)) (rw add-one (from_all p n (suc i) (omega arith))))
  where
    passes : (t : Bool) → one t ≡ 1 → t ≡ true
    passes true e = refl
    passes false e = absurd (omega arith)

-- a test cut at len: the word as it stands, or cut in the midst
module _ (p : ℕ → Bool) (len n i : ℕ) where
  pub from-full : i + n ≤ len → word_from (up_to p len) n i ≡ word_from p n i
  from-full h = from-ext _ _ n i (λ j a l. up_to-is p len j (omega arith))

  pub from_cut : i ≤ len → len ≤ i + n → word_from p n i % 2 ^ (len - i) ≡ word_from (up_to p len) n i
  from_cut h l = go (len - i) (n - (len - i)) (omega arith) (omega arith)
    where
      go : (m r : ℕ) → n ≡ m + r → i + m ≡ len → word_from p n i % 2 ^ m ≡ word_from (up_to p len) n i
      go m r e f =
          let past : word_from (up_to p len) r (i + m) ≡ 0 = from-none _ r (i + m) (record { at = λ j a k. up_to-past p len j (omega arith) }) in
          rw (e, from_low, from-cat (up_to p len), past, zero-mul, zero-add) (from-ext _ _ m i (λ j a k. sym (up_to-is p len j (omega arith))))

  pub up_to-lt : i ≤ len → word_from (up_to p len) n i < 2 ^ (len - i)
  up_to-lt h =
      ⊎_elim (λ z. let l : n ≤ len - i = omega arith in lt_of_lt_of_le (from-lt (up_to p len) n i) (pow_mono l))
      (λ z. rw (← from_cut h (omega arith)) (mod-lt _ (pow_pos (len - i))))
      (eq-zero-or-pos (n - (len - i)))

-- the low r bits of a word cleared
pub from-clear : (p : ℕ → Bool) (n i r : ℕ) → r ≤ n → word_from p n i / 2 ^ r * 2 ^ r % 2 ^ n ≡ word_from (after p (i + r)) n i
from-clear p n i r h = ap (◌% 2 ^ n) (go (n - r) (omega arith)) ∙ mod-eq_of_lt (from-lt _ n i)
  where
    go : (m : ℕ) → n ≡ r + m → word_from p n i / 2 ^ r * 2 ^ r ≡ word_from (after p (i + r)) n i
    go m e =
        let lo : word_from (after p (i + r)) r i ≡ 0 = from-none _ r i (record { at = λ j a l. after-not p (i + r) j l }) in
        let hi : word_from p m (i + r) ≡ word_from (after p (i + r)) m (i + r) = from-ext _ _ m (i + r) (λ j a l. sym (after_is p (i + r) j a)) in
        rw (e, from-high, from-cat, lo, add-zero, hi)

-- t is the place of the lowest set bit, and word AND (word less 1) clears it
pub record Lowest (p : ℕ → Bool) (n i t : ℕ) : Type 0 where
  pub inside : t < n
  pub fails : All p false i (i + t)
  pub passes : p (i + t) ≡ true
  pub cleared : bit_and (word_from p n i) (word_from p n i - 1) ≡ word_from (after p (i + t + 1)) n i

pub lowest_set : (p : ℕ → Bool) (n i : ℕ) → 0 < word_from p n i → Lowest p n i (count_trailing_zeros n (word_from p n i))
unfolding word_from slots_from word_of count_trailing_zeros
lowest_set p zero i h = absurd (omega arith)
lowest_set p (suc n) i h = rw (bit_below, bits_above) (go (p i) refl (lowest_set p n (suc i)))
  where
    go : (t : Bool) → p i ≡ t → (0 < word_from p n (suc i) → Lowest p n (suc i) (count_trailing_zeros n (word_from p n (suc i))))
        → Lowest p (suc n) i (under (one t) (count_trailing_zeros n (word_from p n (suc i))))
    go true e ih =
        let f : after p (i + 0 + 1) i ≡ false = after-not p (i + 0 + 1) i (omega arith) in
        let same : word_from (after p (i + 0 + 1)) n (suc i) ≡ word_from p n (suc i) =
        from-ext _ _ n (suc i) (λ j a l. after_is p (i + 0 + 1) j (omega arith)) in
        record {
          inside = omega arith;
          fails = all_none (omega arith);
          passes = rw add-zero e;
          cleared = rw (f, e, same, clear-odd _ (bit_below true _), bits_above true);
        }
    go false e ih =
        let t = count_trailing_zeros n (word_from p n (suc i)) in
        let x = word_from p n (suc i) in
        let pos : 0 < x = omega (arith, ap one e) in
        let r = ih pos in
        let f : after p (i + suc t + 1) i ≡ false = after-not p (i + suc t + 1) i (omega arith) in
        let k : suc i + t ≡ i + suc t = omega arith in
        record {
          inside = omega (arith, r.inside);
          fails = all_join (all_one e) (rw (add-one, ← k) r.fails);
          passes = rw k at r.passes;
          cleared = rw (f, e, clear-even (one false + 2 * x) (bit_below false x) (omega arith), bits_above false, r.cleared, k);
        }

-- ---- the bits of bytes

byte-bit : (s : List ℕ) (j r k : ℕ) → k ≡ 8 * j + r → r < 8 → one (bit_in s k) ≡ get_or s j 0 / 2 ^ r % 2
unfolding bit_in
byte-bit s j r k e h =
    let q : k / 8 ≡ j = omega arith in
    let m : k % 8 ≡ r = omega arith in
    rw (q, m) (one-odd (get_or s j 0 / 2 ^ r))

pub from_byte : (s : List ℕ) (j : ℕ) → get_or s j 0 < 256 → word_from (bit_in s) 8 (8 * j) ≡ get_or s j 0
unfolding word_from slots_from word_of
from_byte s j h = go 8 0 (8 * j) (omega arith) refl ∙ omega arith
  where
    go : (n r k : ℕ) → k ≡ 8 * j + r → r + n ≡ 8 → word_from (bit_in s) n k ≡ get_or s j 0 / 2 ^ r
    go zero r k e f = let g : r ≡ 8 = omega arith in rw g (omega arith)
    go (suc n) r k e f =
        let ih : word_from (bit_in s) n (suc k) ≡ get_or s j 0 / 2 ^ (r + 1) = go n (r + 1) (suc k) (omega arith) (omega arith) in
        rw (byte-bit s j r k e (omega arith), ih, ← shr-shr (get_or s j 0) r 1) (omega arith)

-- a byte below the bits of those after it
pub byte-below : (s : List ℕ) (j n : ℕ) → get_or s j 0 < 256 → word_from (bit_in s) (8 + n) (8 * j) ≡ word_from (bit_in s) n (8 * j + 8) * 256 + get_or s j 0
byte-below s j n h = rw (from-cat, from_byte)

-- n bits that start within a byte: its high bits, and the bits of the bytes after it
pub straddle : (p : ℕ → Bool) (n i r : ℕ) → 8 ≤ n → r < 8 → bit_or (word_from p 8 i / 2 ^ r) (word_from p n (i + 8) * 2 ^ (8 - r) % 2 ^ n) ≡ word_from p n (i + r)
straddle p n i r h l = go (8 - r) (n - (8 - r)) (omega arith) (omega arith)
  where
    go : (q m : ℕ) → 8 ≡ r + q → n ≡ m + q → bit_or (word_from p 8 i / 2 ^ r) (word_from p n (i + 8) * 2 ^ q % 2 ^ n) ≡ word_from p n (i + r)
    go q m e f =
        let lo : word_from p 8 i / 2 ^ r ≡ word_from p q (i + r) = rw e (from-high p r q i) in
        let hi : word_from p n (i + 8) * 2 ^ q % 2 ^ n ≡ word_from p m (i + 8) * 2 ^ q =
        rw (f, mod-pow-add, shl-shr, mul-mod_left, add-zero, from_low) in
        let g : n ≡ q + m = omega arith in
        let at : i + r + q ≡ i + 8 = omega arith in
        rw (lo, hi, or_shifted_r (word_from p m (i + 8)) q (word_from p q (i + r)) (from-lt p q (i + r)), g, from-cat p q m, at)

-- the same of a slice's bits, from its byte k / 8 and the n bits after that
pub bits_at : (s : List ℕ) (n k x y : ℕ) → 8 ≤ n → x < 256 → x ≡ get_or s (k / 8) 0 → y ≡ word_from (bit_in s) n (8 * (k / 8 + 1))
    → bit_or (x / 2 ^ (k % 8)) (y * 2 ^ (8 - k % 8) % 2 ^ n) ≡ word_from (bit_in s) n k
bits_at s n k x y w h ex ey =
    let l : get_or s (k / 8) 0 < 256 = omega arith in
    let next : 8 * (k / 8) + 8 ≡ 8 * (k / 8 + 1) = omega arith in
    let at : 8 * (k / 8) + k % 8 ≡ k = omega arith in
    rw (from_byte s (k / 8) l, ← ex, next, ← ey, at) at (straddle (bit_in s) n (8 * (k / 8)) (k % 8) w (omega arith))

pub bytes_bits : (w : ℕ) → 256 ^ w ≡ 2 ^ (8 * w)
bytes_bits zero = refl
bytes_bits (suc w) =
    let n : 8 * suc w ≡ 8 * w + 8 = omega arith in
    rw (n, pow-suc, pow-add, bytes_bits w)

-- a number of w bytes is the word of their bits
pub from_le : (s : List ℕ) → ((i : ℕ) → get_or s i 0 < 256) → (w j : ℕ) → le w s j ≡ word_from (bit_in s) (8 * w) (8 * j)
unfolding le sum_below
from_le s small zero j = sym (from-none (bit_in s) 0 (8 * j) (all_none (omega arith)))
from_le s small (suc w) j =
    let n : 8 * suc w ≡ 8 * w + 8 = omega arith in
    let top : 8 * j + 8 * w ≡ 8 * (j + w) = omega arith in
    rw (n, from-cat, top, from_byte s (j + w) (small (j + w)), ← from_le s small w j, ← bytes_bits w) (add_comm _ _)
