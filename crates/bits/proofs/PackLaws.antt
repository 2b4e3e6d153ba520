-- Laws of the packer: no bit is lost, added or moved; and the step, in which the bits picked, put above those that wait, make one number of up to
-- 127 bits. Assumes nothing.
use Prim.Native.Nat.{ℕ, ◌+◌, ◌-◌, ◌*◌, ◌/◌, ◌%◌, ◌^◌, ◌≤◌, ◌<◌}
use mathlib.Core.Bool.{Bool}
use mathlib.Core.List.{List, [], ◌∷◌, ◌++◌, append-nil}
use mathlib.Core.Logic.{dite}
use mathlib.Core.Path.{◌≡◌, refl, sym, ap, ◌∙◌}
use native.Mathlib.Decide.{dec_lt}
use native.Mathlib.Nat.{mod-eq_of_lt}
use native.Mathlib.Omega.{arith}
use borrow.Author.Tests.{lt-ltb, le-ltb}
use lib.Bits.{bit_or}
use lib.Count.{ones}
use lib.ListN.{length, take, drop, length-append, length-drop, take-append-drop}
use lib.Seq.{length-take-le}
use Rattle.std.specs.Prelude.{Option, None, Some}
use Rattle.format.specs.Bytes.{packed, bytes_for, to_le}
use Rattle.format.specs.Words.{low_bits, word_of, gather, compress, full_words, spare}
use Rattle.format.specs.Write.{numbers}
use Rattle.format.proofs.WordLaws.{length-low, low_word, word_low, word_lt, word_mod, word-append, word-take, word-drop, or-shl, shifted-out}
use Rattle.format.proofs.PackedLaws.{words_more, spare_more, words-none, words-one, words_append, spare-append, spare-all, length-spare, packed-word, packed-words}
use Rattle.bits.specs.Pack.{packing, handed}
use Rattle.bits.proofs.FourLaws.{length-picks, compress-lt}

-- the two cases
pub packing-partial : (ts : List Bool) → length ts < 64 → packing ts ≡ (ts, None)
unfolding packing
packing-partial ts h = rw (lt-ltb (length ts) 64 h) refl

pub packing-full : (ts : List Bool) → 64 ≤ length ts → packing ts ≡ (drop 64 ts, Some (word_of (take 64 ts)))
unfolding packing
packing-full ts h = rw (le-ltb (length ts) 64 h) refl

-- what is handed out, and what waits, is what was there
pub packing-keeps : (ts : List Bool) → handed (packing ts).1 ++ (packing ts).0 ≡ ts
packing-keeps ts =
    dite (dec_lt (length ts) 64) (λ (h : length ts < 64). rw (packing-partial ts h) refl)
    (λ h. let long : 64 ≤ length ts = omega arith in
    let first : low_bits 64 (word_of (take 64 ts)) ≡ take 64 ts = rw (length-take-le 64 ts long) at (low_word (take 64 ts)) in
    rw (packing-full ts long, first) (take-append-drop 64 ts))

-- of fewer than 128 bits fewer than 64 wait: a packer takes up to 64 bits at once
pub packing-packed : (ts : List Bool) → length ts < 128 → length (packing ts).0 < 64
packing-packed ts l =
    dite (dec_lt (length ts) 64) (λ (h : length ts < 64). rw (packing-partial ts h) h)
    (λ h. let long : 64 ≤ length ts = omega arith in rw (packing-full ts long, length-drop) (omega arith))

-- the step, where the fields of a packer say which bits ts wait
module _ {ts : List Bool} {current filled : ℕ} (waits : low_bits filled current ≡ ts) (room : filled < 64) (clear : current < 2 ^ filled)
    (bits n : ℕ) (width : n ≤ 64) (small : bits < 2 ^ n) where
  abbrev pushed : List Bool
  pushed = ts ++ low_bits n bits

  abbrev word : ℕ
  word = bit_or current ((bits * 2 ^ filled) % 2 ^ 64)

  abbrev overflow : ℕ
  overflow = bits / 2 / 2 ^ (63 - filled)

  length-pushed : length pushed ≡ filled + n
  length-pushed = rw (← waits, length-append, length-low, length-low) refl

  word-pushed : word_of pushed ≡ bits * 2 ^ filled + current
  word-pushed = rw (← waits, word-append, length-low, word_low filled current clear, word_low n bits small) refl

  word-is : word ≡ word_of pushed % 2 ^ 64
  word-is = rw word-pushed (or-shl 64 filled bits current (omega arith) clear)

  overflow-is : overflow ≡ word_of pushed / 2 ^ 64
  overflow-is =
      let whole : 64 ≡ filled + (1 + (63 - filled)) = omega arith in
      sym (ap (λ (w : ℕ). word_of pushed / 2 ^ w) whole ∙ rw word-pushed (shifted-out filled (63 - filled) bits current clear))

  -- fewer than 64 bits: the word holds them all
  module _ (few : filled + n < 64) where
    whole-word : word ≡ word_of pushed
    whole-word = word-is ∙ word_mod 64 pushed (omega (arith, length-pushed))

    pub partial-clear : word < 2 ^ (filled + n)
    partial-clear = rw (whole-word, ← length-pushed) (word_lt pushed)

    pub step_partial : (low_bits (filled + n) word, None) ≡ packing pushed
    step_partial =
        let short : length pushed < 64 = omega (arith, length-pushed) in
        rw (packing-partial pushed short, whole-word, ← length-pushed, low_word) refl

  -- or a full word, and those that it has no room for
  module _ (many : 64 ≤ filled + n) where
    length-left : length (drop 64 pushed) ≡ filled + n - 64
    length-left = rw (length-drop, length-pushed) refl

    left-is : overflow ≡ word_of (drop 64 pushed)
    left-is = overflow-is ∙ sym (word-drop 64 pushed)

    pub full-clear : overflow < 2 ^ (filled + n - 64)
    full-clear = rw (left-is, ← length-left) (word_lt (drop 64 pushed))

    pub step-full : (low_bits (filled + n - 64) overflow, Some word) ≡ packing pushed
    step-full =
        let long : 64 ≤ length pushed = omega (arith, length-pushed) in
        rw (packing-full pushed long, word-is, left-is, ← length-left, low_word, word-take 64 pushed) refl

-- what compress gathers may be pushed: as many bits as the mask has ones
module _ (value mask : ℕ) (fits : mask < 2 ^ 64) where
  whole : ones (mask % 2 ^ 64) ≡ ones mask
  whole = ap ones (mod-eq_of_lt fits)

  pub picks-able : compress 64 value mask < 2 ^ ones mask
  picks-able = rw whole at (compress-lt 64 value mask)

  pub picks-pushed : low_bits (ones mask) (compress 64 value mask) ≡ gather (low_bits 64 mask) (low_bits 64 value)
  unfolding compress
  picks-pushed = rw (← whole, ← length-picks 64 value mask, low_word) refl

-- ---- bits packed one after another: the full words of all bits so far were handed out, and their spare bits wait

-- what is handed back tells how many bits there are, and which of them wait
abbrev left_of : List Bool × Option ℕ → List Bool
left_of k = k.0

abbrev word_in : List Bool × Option ℕ → Option ℕ
word_in k = k.1

some≢none : {w : ℕ} → ◌≡◌ {A = Option ℕ} (Some w) None → ⊥
some≢none e = cc

pub partial-is : {left : List Bool} (ts : List Bool) → (left, None) ≡ packing ts → (length ts < 64) × (left ≡ ts)
partial-is {left} ts e =
    dite (dec_lt (length ts) 64) (λ (h : length ts < 64). (h, ap left_of (e ∙ packing-partial ts h)))
    (λ h. let long : 64 ≤ length ts = omega arith in absurd (some≢none (ap word_in (sym (packing-full ts long) ∙ sym e))))

pub full-is : {left : List Bool} {w : ℕ} (ts : List Bool) → (left, Some w) ≡ packing ts → (64 ≤ length ts) × (left ≡ drop 64 ts) × (w ≡ word_of (take 64 ts))
full-is {left} {w} ts e =
    dite (dec_lt (length ts) 64) (λ (h : length ts < 64). absurd (some≢none (ap word_in (e ∙ packing-partial ts h))))
    (λ h. let long : 64 ≤ length ts = omega arith in
    let k = e ∙ packing-full ts long in
    (long, ap left_of k, cc (ap word_in k)))

module _ {left : List Bool} (ts us : List Bool) where
  -- the bits us came and filled no word
  pub partial-words : (left, None) ≡ packing (spare ts ++ us) → (full_words (ts ++ us) ≡ full_words ts) × (left ≡ spare (ts ++ us))
  partial-words e =
      let (short, waits) = partial-is (spare ts ++ us) e in
      (rw (words_more ts us, words-none (spare ts ++ us) short) (append-nil (full_words ts)), rw (spare_more ts us, spare-all (spare ts ++ us) short) waits)

  -- or they filled one
  pub full-words : (w : ℕ) → length us ≤ 64 → (left, Some w) ≡ packing (spare ts ++ us) → (full_words (ts ++ us) ≡ full_words ts ++ (w ∷ [])) × (left ≡ spare (ts ++ us))
  full-words w l e =
      let all = spare ts ++ us in
      let (long, waits, word) = full-is all e in
      let first = length-take-le 64 all long in
      let rest : length (drop 64 all) < 64 = simp (length-drop, length-append, length-spare) (omega arith) in
      let parts = take-append-drop 64 all in
      let words : full_words all ≡ w ∷ [] =
      ap full_words (sym parts) ∙ words_append 1 (take 64 all) (drop 64 all) first ∙ rw (words-one (take 64 all) first, words-none (drop 64 all) rest, word) refl in
      let after : spare all ≡ drop 64 all = ap spare (sym parts) ∙ spare-append 1 (take 64 all) (drop 64 all) first ∙ spare-all (drop 64 all) rest in
      (rw (words_more ts us, words) refl, rw (spare_more ts us, after) waits)

-- what waits at the end is written as bytes, spare bits 0
pub flushed : (ts : List Bool) → packed ts ≡ numbers 8 (full_words ts) ++ to_le (bytes_for (length (spare ts))) (word_of (spare ts))
flushed ts = rw (packed-words ts, packed-word (spare ts)) refl
