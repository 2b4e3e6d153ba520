-- Laws of packed bits as consecutive words: full words of 64 bits, then the bits that fill none. Assumes nothing.
use Rattle.std.proofs.Common.{◌≡◌, ℕ, zero, suc, ◌+◌, ◌-◌, ◌*◌, ◌/◌, ◌%◌, ◌^◌, ◌<◌, ◌≤◌, Bool, false, List, [], ◌∷◌, ◌++◌, length, get_or, take, drop, sym, refl, ap, ◌∙◌, append_assoc, append-nil, add-zero, add-suc, add_comm, one-mul, mul-suc, mul-add, arith, length-append, length-drop, take-append-drop, length-take-le, take_all, drop-drop, pow_pos, shr-shr}
use mathlib.Core.Logic.{dite}
use native.Mathlib.Nat.{div-eq_of_lt}
use native.Mathlib.Decide.{dec_lt}
use lib.Arith.{digits_div, digits_mod}
use lib.ListN.{get_or-eq_default}
use lib.Pow.{mod-pow-add, mod-mod-pow, field}
use lib.Seq.{take-append-le, drop-append-le, drop-append-add}
use Rattle.format.specs.Bytes.{table, join, sum_below, one, to_le, bytes_for, packed, bit_in}
use Rattle.format.specs.Words.{low_bits, word_of, word_bits, full_words, spare}
use Rattle.format.specs.Slots.{slots_from, word_from}
use Rattle.format.specs.Write.{numbers}
use Rattle.format.proofs.Laws.{length-table, get_or-table}
use Rattle.format.proofs.Measure.{length-packed}
use Rattle.format.proofs.Numbers.{table-ext, to_le-mod, numbers-append}
use Rattle.format.proofs.SlotLaws.{length-slots, take-slots, drop-slots}
use Rattle.format.proofs.WordLaws.{one-odd, low_word, word-append, get_or-word, bytes_bits, word_lt}

-- ---- tables

module _ {A : Type 0} where
  pub table-cat : (f : ℕ → A) (n m : ℕ) → table f (n + m) ≡ table f n ++ table (λ j. f (n + j)) m
  unfolding table
  table-cat f n zero = rw add-zero (sym (append-nil (table f n)))
  table-cat f n (suc m) = rw (add-suc, table-cat f n m) (append_assoc (table f n) _ _)

-- ---- the bytes of a number

-- a field of b bits, of the low a fields alone
low_field : (b a j x : ℕ) → j < a → x % 2 ^ (b * a) / 2 ^ (b * j) % 2 ^ b ≡ x / 2 ^ (b * j) % 2 ^ b
low_field b a j x h = go (a - suc j) (omega arith)
  where
    go : (d : ℕ) → a ≡ d + suc j → x % 2 ^ (b * a) / 2 ^ (b * j) % 2 ^ b ≡ x / 2 ^ (b * j) % 2 ^ b
    go d e =
        let m : b * a ≡ b * d + (b + b * j) = rw (e, mul-add, mul-suc) (omega arith) in
        rw (m, ← field (x % 2 ^ (b * d + (b + b * j))) b (b * j), mod-mod-pow, field)

pub to_le-add : (a b x : ℕ) → to_le (a + b) x ≡ to_le a x ++ to_le b (x / 256 ^ a)
unfolding to_le
to_le-add a b x = table-cat _ a b ∙ ap (to_le a x ++◌) (table-ext _ _ b (λ j h. later j))
  where
    later : (j : ℕ) → x / 256 ^ (a + j) % 256 ≡ x / 256 ^ a / 256 ^ j % 256
    later j =
        let m : 8 * (a + j) ≡ 8 * a + 8 * j = omega arith in
        rw (bytes_bits (a + j), bytes_bits a, bytes_bits j, m, shr-shr)

-- a number of a bytes, and another above it
pub to_le-cat : (a b lo hi : ℕ) → lo < 256 ^ a → to_le (a + b) (hi * 256 ^ a + lo) ≡ to_le a lo ++ to_le b hi
to_le-cat a b lo hi h =
    to_le-add a b (hi * 256 ^ a + lo)
    ∙ rw (digits_div hi h) (ap (◌++ to_le b hi) (sym (to_le-mod a (hi * 256 ^ a + lo)) ∙ ap (to_le a) (digits_mod hi h)))

-- ---- the bytes of packed bits

-- the bits from a place on, each at its place in a number
sum-bits : (ts : List Bool) (at n : ℕ) → sum_below (λ k. one (get_or ts (at + k) false) * 2 ^ k) n ≡ word_of ts / 2 ^ at % 2 ^ n
unfolding sum_below
sum-bits ts at zero = omega arith
sum-bits ts at (suc n) =
    let e : suc n ≡ 1 + n = omega arith in
    rw (sum-bits ts at n, get_or-word ts (at + n), one-odd, e, mod-pow-add _ 1 n, shr-shr) (add_comm _ _)

-- packed bits are the bytes of their word
pub packed-word : (ts : List Bool) → packed ts ≡ to_le (bytes_for (length ts)) (word_of ts)
unfolding packed to_le
packed-word ts = table-ext _ _ _ (λ j h. rw bytes_bits (sum-bits ts (8 * j) 8))

-- bit k of packed bits is the k-th of them, and false past the last
byte-packed : (ts : List Bool) (q : ℕ) → q < bytes_for (length ts) → get_or (packed ts) q 0 ≡ word_of ts / 2 ^ (8 * q) % 2 ^ 8
unfolding packed
byte-packed ts q h = get_or-table _ (bytes_for (length ts)) q 0 h ∙ sum-bits ts (8 * q) 8

pub bit-packed : (ts : List Bool) (k : ℕ) → bit_in (packed ts) k ≡ get_or ts k false
unfolding bit_in bytes_for
bit-packed ts k = dite (dec_lt (k / 8) (bytes_for (length ts))) inside (λ h. outside (omega arith))
  where
    -- a bit of the number's byte is that bit of the number
    bit : (x r : ℕ) → r < 8 → x % 2 ^ 8 / 2 ^ r % 2 ≡ x / 2 ^ r % 2
    bit x r h = simp one-mul at (low_field 1 8 r x h)

    inside : k / 8 < bytes_for (length ts) → bit_in (packed ts) k ≡ get_or ts k false
    inside h =
        let at : 8 * (k / 8) + k % 8 ≡ k = omega arith in
        rw (byte-packed ts (k / 8) h, bit _ (k % 8) (omega arith), shr-shr, at) (sym (get_or-word ts k))

    outside : bytes_for (length ts) ≤ k / 8 → bit_in (packed ts) k ≡ get_or ts k false
    outside h =
        let none : get_or (packed ts) (k / 8) 0 ≡ 0 = get_or-eq_default (packed ts) 0 (rw length-packed h) in
        rw (none, div-eq_of_lt (pow_pos (k % 8))) (sym (get_or-eq_default ts false (omega arith)))

-- bits that fill whole bytes, then others
pub packed-append : (n : ℕ) (ts us : List Bool) → length ts ≡ 8 * n → packed (ts ++ us) ≡ packed ts ++ packed us
unfolding bytes_for
packed-append n ts us e =
    let both : bytes_for (length (ts ++ us)) ≡ n + bytes_for (length us) = rw length-append (omega arith) in
    let first : bytes_for (length ts) ≡ n = omega arith in
    let below : word_of ts < 256 ^ n = rw (bytes_bits n, ← e) (word_lt ts) in
    rw (packed-word (ts ++ us), packed-word ts, packed-word us, both, first, word-append, e, ← bytes_bits n)
    (to_le-cat n (bytes_for (length us)) (word_of ts) (word_of us) below)

-- ---- full words, and the bits that fill none

-- the 64 bits from 64 * j on, as a word
abbrev word_at : List Bool → ℕ → ℕ
word_at ts j = word_of (take 64 (drop (64 * j) ts))

pub length-words : (ts : List Bool) → length (full_words ts) ≡ length ts / 64
unfolding full_words
length-words ts = length-table _ (length ts / 64)

pub length-spare : (ts : List Bool) → length (spare ts) ≡ length ts % 64
unfolding spare
length-spare ts = rw length-drop (omega arith)

-- whole words, then other bits
module _ (n : ℕ) (ts us : List Bool) (e : length ts ≡ 64 * n) where
  more : length (ts ++ us) / 64 ≡ n + length us / 64
  more = rw length-append (omega arith)

  within : (j : ℕ) → j < n → word_at (ts ++ us) j ≡ word_at ts j
  within j h =
      let enough : 64 ≤ length (drop (64 * j) ts) = rw length-drop (omega arith) in
      let start : 64 * j ≤ length ts = omega arith in
      rw (drop-append-le (64 * j) ts us start, take-append-le 64 (drop (64 * j) ts) us enough)

  past : (j : ℕ) → word_at (ts ++ us) (n + j) ≡ word_at us j
  past j =
      let m : 64 * (n + j) ≡ length ts + 64 * j = omega arith in
      rw (m, drop-append-add ts us (64 * j))

  pub words_append : full_words (ts ++ us) ≡ full_words ts ++ full_words us
  unfolding full_words
  words_append =
      let whole : length ts / 64 ≡ n = omega arith in
      rw (more, whole) (table-cat (word_at (ts ++ us)) n (length us / 64) ∙ rw (table-ext _ (word_at ts) n within, table-ext _ (word_at us) (length us / 64) (λ j h. past j)))

  pub spare-append : spare (ts ++ us) ≡ spare us
  unfolding spare
  spare-append =
      let m : 64 * (n + length us / 64) ≡ length ts + 64 * (length us / 64) = omega arith in
      rw (more, m) (drop-append-add ts us (64 * (length us / 64)))

-- fewer than 64 bits fill no word
module _ (ts : List Bool) (h : length ts < 64) where
  pub words-none : full_words ts ≡ []
  unfolding full_words table
  words-none = let z : length ts / 64 ≡ 0 = omega arith in rw z

  pub spare-all : spare ts ≡ ts
  unfolding spare
  spare-all = let z : length ts / 64 ≡ 0 = omega arith in rw z

-- and 64 bits one
module _ (ts : List Bool) (h : length ts ≡ 64) where
  pub words-one : full_words ts ≡ word_of ts ∷ []
  unfolding full_words table
  words-one = let z : length ts / 64 ≡ 1 = omega arith in rw (z, take_all 64 ts (omega arith))

-- whole words leave no bit
pub spare-none : (n : ℕ) (ts : List Bool) → length ts ≡ 64 * n → spare ts ≡ []
spare-none n ts h = ap spare (sym (append-nil ts)) ∙ spare-append n ts [] h ∙ spare-all [] (omega arith)

-- the bits of the full words
abbrev front : List Bool → List Bool
front ts = take (64 * (length ts / 64)) ts

length_front : (ts : List Bool) → length (front ts) ≡ 64 * (length ts / 64)
length_front ts = length-take-le (64 * (length ts / 64)) ts (omega arith)

front-spare : (ts : List Bool) → front ts ++ spare ts ≡ ts
unfolding spare
front-spare ts = take-append-drop (64 * (length ts / 64)) ts

-- one word after another: the words of the first bits stand, and the spare bits join those that follow
module _ (ts us : List Bool) where
  all : front ts ++ (spare ts ++ us) ≡ ts ++ us
  all = sym (append_assoc (front ts) (spare ts) us) ∙ ap (◌++ us) (front-spare ts)

  pub words_more : full_words (ts ++ us) ≡ full_words ts ++ full_words (spare ts ++ us)
  words_more =
      let n = length ts / 64 in
      let few : length (spare ts) < 64 = rw length-spare (omega arith) in
      let words : full_words ts ≡ full_words (front ts) =
      ap full_words (sym (front-spare ts)) ∙ words_append n (front ts) (spare ts) (length_front ts) ∙ rw (words-none (spare ts) few) (append-nil (full_words (front ts))) in
      ap full_words (sym all) ∙ words_append n (front ts) (spare ts ++ us) (length_front ts) ∙ rw words

  pub spare_more : spare (ts ++ us) ≡ spare (spare ts ++ us)
  spare_more = ap spare (sym all) ∙ spare-append (length ts / 64) (front ts) (spare ts ++ us) (length_front ts)

-- ---- the words' bits and bytes

pub bits-append : (xs ys : List ℕ) → word_bits (xs ++ ys) ≡ word_bits xs ++ word_bits ys
unfolding word_bits
bits-append [] ys = refl
bits-append (x ∷ xs) ys = rw (bits-append xs ys) (sym (append_assoc (low_bits 64 x) (word_bits xs) (word_bits ys)))

pub numbers-one : (w x : ℕ) → numbers w (x ∷ []) ≡ to_le w x
unfolding numbers join
numbers-one w x = append-nil (to_le w x)

-- one word, then the bits after it
module _ (ts : List Bool) (h : 64 ≤ length ts) where
  bits-one : low_bits 64 (word_of (take 64 ts)) ++ drop 64 ts ≡ ts
  bits-one = rw (rw (length-take-le 64 ts h) at (low_word (take 64 ts))) (take-append-drop 64 ts)

  packed-one : to_le 8 (word_of (take 64 ts)) ++ packed (drop 64 ts) ≡ packed ts
  unfolding bytes_for
  packed-one =
      let long = length-take-le 64 ts h in
      let word : packed (take 64 ts) ≡ to_le 8 (word_of (take 64 ts)) = packed-word (take 64 ts) ∙ rw long in
      rw (← word, ← packed-append 8 (take 64 ts) (drop 64 ts) long, take-append-drop)

-- the first n words, and the bits from there on
module _ (ts : List Bool) where
  next : (n : ℕ) → drop (64 * suc n) ts ≡ drop 64 (drop (64 * n) ts)
  next n = let e : 64 * suc n ≡ 64 * n + 64 = omega arith in rw (e, drop-drop)

  enough : (n : ℕ) → 64 * suc n ≤ length ts → 64 ≤ length (drop (64 * n) ts)
  enough n h = rw length-drop (omega arith)

  bits-first : (n : ℕ) → 64 * n ≤ length ts → word_bits (table (word_at ts) n) ++ drop (64 * n) ts ≡ ts
  unfolding table word_bits
  bits-first zero h = refl
  bits-first (suc n) h =
      rw (next n, bits-append, append_assoc, append-nil, bits-one (drop (64 * n) ts) (enough n h)) (bits-first n (omega arith))

  packed-first : (n : ℕ) → 64 * n ≤ length ts → numbers 8 (table (word_at ts) n) ++ packed (drop (64 * n) ts) ≡ packed ts
  unfolding table numbers join
  packed-first zero h = refl
  packed-first (suc n) h =
      rw (next n, numbers-append, append_assoc, numbers-one, packed-one (drop (64 * n) ts) (enough n h)) (packed-first n (omega arith))

  pub bits-words : word_bits (full_words ts) ++ spare ts ≡ ts
  unfolding full_words spare
  bits-words = bits-first (length ts / 64) (omega arith)

  pub packed-words : packed ts ≡ numbers 8 (full_words ts) ++ packed (spare ts)
  unfolding full_words spare
  packed-words = sym (packed-first (length ts / 64) (omega arith))

-- of the tests of n slots, the words and the spare bits are again those of slots
module _ (p : ℕ → Bool) (n i : ℕ) where
  pub words-slots : full_words (slots_from p n i) ≡ table (λ j. word_from p 64 (i + 64 * j)) (n / 64)
  unfolding full_words word_from
  words-slots = rw length-slots (table-ext _ _ (n / 64) (λ j h. word j h))
    where
      word : (j : ℕ) → j < n / 64 → word_at (slots_from p n i) j ≡ word_of (slots_from p 64 (i + 64 * j))
      word j h =
          let start : 64 * j ≤ n = omega arith in
          let long : 64 ≤ n - 64 * j = omega arith in
          rw (drop-slots p n i (64 * j) start, take-slots p (n - 64 * j) (i + 64 * j) 64 long)

  pub spare-slots : spare (slots_from p n i) ≡ slots_from p (n % 64) (i + 64 * (n / 64))
  unfolding spare
  spare-slots =
      let start : 64 * (n / 64) ≤ n = omega arith in
      let left : n - 64 * (n / 64) ≡ n % 64 = omega arith in
      rw (length-slots, drop-slots p n i (64 * (n / 64)) start, left)
