-- Marked bits: marks one after another are one; those of a byte, a word, a fill; marks over zeros as packed tests; loops of marks. Assumes nothing.
use Prim.Native.Nat.{ℕ, suc, ◌+◌, ◌-◌, ◌*◌, ◌/◌, ◌%◌, ◌^◌, ◌≤◌, ◌<◌}
use mathlib.Core.Bool.{Bool, false, ◌||◌, or_assoc, or-false}
use mathlib.Core.List.{List}
use mathlib.Core.Logic.{dite}
use mathlib.Core.Path.{◌≡◌, refl, sym, ap, ap₂, ◌∙◌}
use native.Mathlib.Decide.{dec_le}
use native.Mathlib.Nat.{zero-add, mod-lt}
use native.Mathlib.Omega.{arith}
use lib.Bits.{bit_or, or_zero_r, or_shr, or_mod}
use lib.ListN.{length, get_or, set, replicate, length-set, length-replicate, get_or-replicate, get_or-eq_default}
use lib.Pow.{pow_pos}
use lib.Seq.{get_or-set_same, get_or-set_other, get_or-take, get_or-drop, ext_get_or}
use Rattle.format.specs.Bytes.{within, to_le, bytes_at, bytes_for, packed, bit_in}
use Rattle.format.specs.Words.{word_of}
use Rattle.format.specs.Slots.{slots_from, word_from, All}
use Rattle.format.specs.Put.{put, Wrote}
use Rattle.format.proofs.Laws.{get_or-table}
use Rattle.format.proofs.Measure.{length-to_le}
use Rattle.format.proofs.PackedLaws.{packed-word, bit-packed}
use Rattle.format.proofs.SlotLaws.{length-slots}
use Rattle.format.proofs.Put.{length-put, put-before, put-at, put-past, same_size}
use Rattle.format.proofs.WordLaws.{from-ext, from-shift, from-none, from-high, from_low, from_byte, bytes_bits}
use Rattle.marks.specs.Marks.{Marked}
use Rattle.marks.proofs.Tests.{within-join, within_in, within-before, within-past, or-join, or-ones, from_or, from-full-ones, from-within}
use Rattle.marks.proofs.Stored.{get_or-slots, length-rows}

pub marked-none : {t : ℕ → Bool} {s : List ℕ} → ((k : ℕ) → t k ≡ false) → Marked t s s
marked-none {t} {s} h =
    record { size = refl; bytes = λ j. rw (from-none t 8 (8 * j) (record { at = λ k a l. h k })) (sym (or_zero_r (get_or s j 0))) }

pub marked-as : {p q : ℕ → Bool} {old new : List ℕ} → Marked p old new → ((k : ℕ) → p k ≡ q k) → Marked q old new
marked-as {p} {q} {old} m h = record { size = m.size; bytes = λ j. m.bytes j ∙ ap (bit_or (get_or old j 0)) (from-ext p q 8 (8 * j) (λ k a l. h k)) }

pub marked-then : {p q : ℕ → Bool} {old mid new : List ℕ} → Marked p old mid → Marked q mid new → Marked (λ k. p k || q k) old new
marked-then {p} {q} {old} a b =
    record {
      size = b.size ∙ a.size;
      bytes = λ j. b.bytes j ∙ ap (λ (x : ℕ). bit_or x (word_from q 8 (8 * j))) (a.bytes j) ∙ or-join (get_or old j 0) (word_from p 8 (8 * j)) (word_from q 8 (8 * j)) ∙ ap (bit_or (get_or old j 0)) (from_or p q 8 (8 * j));
    }

-- ranges: by other names of their ends, and two that meet
pub marked-range : {a e : ℕ} {old new : List ℕ} (lo hi : ℕ) → a ≡ lo → e ≡ hi → Marked (within 0 a e) old new → Marked (within 0 lo hi) old new
marked-range lo hi el eh m = rw (el, eh) at m

pub marked_more : {old mid new : List ℕ} (lo at hi : ℕ) → lo ≤ at → at ≤ hi → Marked (within 0 lo at) old mid → Marked (within 0 at hi) mid new → Marked (within 0 lo hi) old new
marked_more lo at hi l h a b = marked-as (marked-then a b) (λ k. within-join lo at hi k l h)

-- a byte with nothing marked in it is as it was
same_byte : (t : ℕ → Bool) (x y j : ℕ) → x ≡ y → All t false (8 * j) (8 * j + 8) → x ≡ bit_or y (word_from t 8 (8 * j))
same_byte t x y j e none = rw (from-none t 8 (8 * j) none) (e ∙ sym (or_zero_r y))

-- ---- one byte

pub marked-byte : (old : List ℕ) (j from to x : ℕ) → j < length old → from ≤ to → to ≤ 8 → x ≡ 2 ^ to - 2 ^ from
    → Marked (within 0 (8 * j + from) (8 * j + to)) old (set old j (bit_or (get_or old j 0) x))
marked-byte old j from to x h l top e = record { size = length-set old j _; bytes = byte }
  where
    t : ℕ → Bool
    t = within 0 (8 * j + from) (8 * j + to)

    byte : (i : ℕ) → get_or (set old j (bit_or (get_or old j 0) x)) i 0 ≡ bit_or (get_or old i 0) (word_from t 8 (8 * i))
    byte i =
        dite (dec_le i j)
        (λ a. dite (dec_le j i)
        (λ b. let q : i ≡ j = omega arith in rw (q, get_or-set_same old j (bit_or (get_or old j 0) x) 0 h, e, from-within 8 (8 * j) from to l top))
        (λ b. same_byte t _ _ i (get_or-set_other old j i _ 0 (λ q. omega arith)) (record { at = λ k c d. within-before (8 * j + from) (8 * j + to) k (omega arith) })))
        (λ a. same_byte t _ _ i (get_or-set_other old j i _ 0 (λ q. omega arith)) (record { at = λ k c d. within-past (8 * j + from) (8 * j + to) k (omega arith) }))

-- ---- whole bytes

pub marked-fill : {old new : List ℕ} (from to : ℕ) {next : ℕ} → ((j : ℕ) → get_or old j 0 < 256) → from ≤ to → to ≤ length old
    → Wrote old from (replicate (to - from) 255) new next → Marked (within 0 (8 * from) (8 * to)) old new
marked-fill {old} {new} from to small l h w = record { size = same_size w; bytes = λ i. rw w.bytes (byte i) }
  where
    t : ℕ → Bool
    t = within 0 (8 * from) (8 * to)

    long : length (replicate {A = ℕ} (to - from) 255) ≡ to - from
    long = length-replicate (to - from) 255

    byte : (i : ℕ) → get_or (put old from (replicate (to - from) 255)) i 0 ≡ bit_or (get_or old i 0) (word_from t 8 (8 * i))
    byte i =
        dite (dec_le from i)
        (λ a. dite (dec_le to i)
        (λ b. same_byte t _ _ i (put-past old from _ i (omega (arith, long))) (record { at = λ k c d. within-past (8 * from) (8 * to) k (omega arith) }))
        (λ b.
        let q : from + (i - from) ≡ i = omega arith in
        let full : word_from t 8 (8 * i) ≡ 255 = from-full-ones t 8 (8 * i) (record { at = λ k c d. within_in (8 * from) (8 * to) k (omega arith) (omega arith) }) in
        let all : get_or (put old from (replicate (to - from) 255)) (from + (i - from)) 0 ≡ 255 =
        put-at old from (replicate (to - from) 255) (i - from) (omega (arith, long)) (omega (arith, long)) ∙ get_or-replicate (to - from) (i - from) 255 0 (omega arith) in
        rw full (rw q at all ∙ sym (or-ones 8 (get_or old i 0) (small i)))))
        (λ a. same_byte t _ _ i (put-before old from _ i (omega arith)) (record { at = λ k c d. within-before (8 * from) (8 * to) k (omega arith) }))

-- ---- the bytes of a number

-- byte t of a number of c bytes
byte_of : (c x t : ℕ) → t < c → get_or (to_le c x) t 0 ≡ x / 2 ^ (8 * t) % 2 ^ 8
unfolding to_le
byte_of c x t h = get_or-table _ c t 0 h ∙ rw (bytes_bits t)

byte_at : (s : List ℕ) (at c t : ℕ) → t < c → get_or (bytes_at s at c) t 0 ≡ get_or s (at + t) 0
unfolding bytes_at
byte_at s at c t h = get_or-take c _ t 0 h ∙ get_or-drop at s t 0

-- and of a word of tests: those of its eight slots
from_field : (p : ℕ → Bool) (c i t : ℕ) → t < c → word_from p (8 * c) i / 2 ^ (8 * t) % 2 ^ 8 ≡ word_from p 8 (i + 8 * t)
from_field p c i t h = go (8 * (c - suc t)) (omega arith)
  where
    go : (m : ℕ) → 8 * c ≡ 8 * t + (8 + m) → word_from p (8 * c) i / 2 ^ (8 * t) % 2 ^ 8 ≡ word_from p 8 (i + 8 * t)
    go m e = ap (λ (z : ℕ). word_from p z i / 2 ^ (8 * t) % 2 ^ 8) e ∙ rw (from-high p (8 * t) (8 + m) i) (from_low p 8 m (i + 8 * t))

pub marked-word : (c : ℕ) {old new : List ℕ} (j from to x y : ℕ) {next : ℕ} → j + c ≤ length old → from ≤ to → to ≤ 8 * c
    → to_le c y ≡ bytes_at old j c → x ≡ bit_or y (2 ^ to - 2 ^ from) → Wrote old j (to_le c x) new next → Marked (within 0 (8 * j + from) (8 * j + to)) old new
marked-word c {old} j from to x y h l top ey ex w = record { size = same_size w; bytes = λ i. rw w.bytes (byte i) }
  where
    p : ℕ → Bool
    p = within 0 (8 * j + from) (8 * j + to)

    long : length (to_le c x) ≡ c
    long = length-to_le c x

    was : (t : ℕ) → t < c → y / 2 ^ (8 * t) % 2 ^ 8 ≡ get_or old (j + t) 0
    was t b = sym (byte_of c y t b) ∙ ap (λ (z : List ℕ). get_or z t 0) ey ∙ byte_at old j c t b

    here : (t : ℕ) → t < c → get_or (put old j (to_le c x)) (j + t) 0 ≡ bit_or (get_or old (j + t) 0) (word_from p 8 (8 * (j + t)))
    here t b =
        let place : 8 * j + 8 * t ≡ 8 * (j + t) = omega arith in
        let mark : (2 ^ to - 2 ^ from) / 2 ^ (8 * t) % 2 ^ 8 ≡ word_from p 8 (8 * (j + t)) =
        ap (λ (z : ℕ). z / 2 ^ (8 * t) % 2 ^ 8) (sym (from-within (8 * c) (8 * j) from to l top)) ∙ from_field p c (8 * j) t b ∙ ap (word_from p 8) place in
        put-at old j (to_le c x) t (omega (arith, long)) (omega (arith, long)) ∙ byte_of c x t b ∙ ap (λ (z : ℕ). z / 2 ^ (8 * t) % 2 ^ 8) ex
        ∙ ap (◌% 2 ^ 8) (or_shr y (2 ^ to - 2 ^ from) (8 * t)) ∙ or_mod (y / 2 ^ (8 * t)) ((2 ^ to - 2 ^ from) / 2 ^ (8 * t)) 8 ∙ ap₂ bit_or (was t b) mark

    byte : (i : ℕ) → get_or (put old j (to_le c x)) i 0 ≡ bit_or (get_or old i 0) (word_from p 8 (8 * i))
    byte i =
        dite (dec_le j i)
        (λ a. dite (dec_le (j + c) i)
        (λ b. same_byte p _ _ i (put-past old j _ i (omega (arith, long))) (record { at = λ k e d. within-past (8 * j + from) (8 * j + to) k (omega arith) }))
        (λ b. let q : j + (i - j) ≡ i = omega arith in rw q at (here (i - j) (omega arith))))
        (λ a. same_byte p _ _ i (put-before old j _ i (omega arith)) (record { at = λ k e d. within-before (8 * j + from) (8 * j + to) k (omega arith) }))

-- ---- marks over zeros

-- each byte of packed bits is made of eight of them
packed_byte : (ts : List Bool) (j : ℕ) → j < bytes_for (length ts) → get_or (packed ts) j 0 ≡ word_from (bit_in (packed ts)) 8 (8 * j)
packed_byte ts j h =
    let small : get_or (packed ts) j 0 < 256 =
    rw (packed-word ts, byte_of (bytes_for (length ts)) (word_of ts) j h) (mod-lt (word_of ts / 2 ^ (8 * j)) (pow_pos 8)) in
    sym (from_byte (packed ts) j small)

-- n bits from byte `at` on were zeroed, and those that pass were set: they are the bits packed
module _ {t : ℕ → Bool} {old mid new : List ℕ} {at next : ℕ} (p : ℕ → Bool) (n size : ℕ) (e : size ≡ bytes_for n) (fit : at + size ≤ length old)
    (w : Wrote old at (replicate size 0) mid next) (m : Marked t mid new)
    (before : (k : ℕ) → k < 8 * at → t k ≡ false) (past : (k : ℕ) → 8 * at + n ≤ k → t k ≡ false) (tells : (x : ℕ) → x < n → t (8 * at + x) ≡ p x) where
  abbrev ts : List Bool
  ts = slots_from p n 0

  zeros : length (replicate {A = ℕ} size 0) ≡ size
  zeros = length-replicate size 0

  long : length ts ≡ n
  long = length-slots p n 0

  wide : length (packed ts) ≡ size
  wide = length-rows p n ∙ sym e

  bit : (x : ℕ) → t (8 * at + x) ≡ bit_in (packed ts) x
  bit x =
      dite (dec_le n x)
      (λ h. past (8 * at + x) (omega arith) ∙ sym (bit-packed ts x ∙ get_or-eq_default ts false (omega (arith, long))))
      (λ h. tells x (omega arith) ∙ sym (bit-packed ts x ∙ get_or-slots p n 0 x (omega arith) ∙ ap p (zero-add x)))

  inner : (j : ℕ) → j < size → get_or new (at + j) 0 ≡ get_or (put old at (packed ts)) (at + j) 0
  inner j h =
      let place : 8 * (at + j) ≡ 8 * at + 8 * j = omega arith in
      let zero : get_or mid (at + j) 0 ≡ 0 = rw w.bytes (put-at old at (replicate size 0) j (omega (arith, zeros)) (omega (arith, zeros)) ∙ get_or-replicate size j 0 0 h) in
      let now : get_or new (at + j) 0 ≡ word_from t 8 (8 * (at + j)) = m.bytes (at + j) ∙ ap (λ (z : ℕ). bit_or z (word_from t 8 (8 * (at + j)))) zero in
      let word : word_from t 8 (8 * at + 8 * j) ≡ word_from (bit_in (packed ts)) 8 (8 * j) = from-shift t (8 * at) 8 (8 * j) ∙ from-ext _ _ 8 (8 * j) (λ x a b. bit x) in
      now ∙ ap (word_from t 8) place ∙ word ∙ sym (put-at old at (packed ts) j (omega (arith, wide)) (omega (arith, wide)) ∙ packed_byte ts j (rw long (omega arith)))

  outer : (i : ℕ) → get_or mid i 0 ≡ get_or old i 0 → get_or (put old at (packed ts)) i 0 ≡ get_or old i 0 → All t false (8 * i) (8 * i + 8) → get_or new i 0 ≡ get_or (put old at (packed ts)) i 0
  outer i a b none = m.bytes i ∙ sym (same_byte t (get_or mid i 0) (get_or mid i 0) i refl none) ∙ a ∙ sym b

  byte : (i : ℕ) → get_or new i 0 ≡ get_or (put old at (packed ts)) i 0
  unfolding bytes_for
  byte i =
      dite (dec_le at i)
      (λ a. dite (dec_le (at + size) i)
      (λ b. outer i (ap (λ (z : List ℕ). get_or z i 0) w.bytes ∙ put-past old at _ i (omega (arith, zeros))) (put-past old at (packed ts) i (omega (arith, wide))) (record { at = λ k c d. past k (omega arith) }))
      (λ b. let q : at + (i - at) ≡ i = omega arith in rw q at (inner (i - at) (omega arith))))
      (λ a. outer i (ap (λ (z : List ℕ). get_or z i 0) w.bytes ∙ put-before old at _ i (omega arith)) (put-before old at (packed ts) i (omega arith)) (record { at = λ k c d. before k (omega arith) }))

  pub marked-packed : Wrote old at (packed (slots_from p n 0)) new next
  marked-packed =
      record {
        bytes = ext_get_or 0 new (put old at (packed ts)) (m.size ∙ same_size w ∙ sym (length-put old at (packed ts))) (λ i h. byte i);
        place = omega (arith, w.place, zeros, wide);
      }

-- ---- a loop of marks: its invariant says what is left to mark

-- what is marked, and `left`, are all that is to be marked
pub record Marking (t : ℕ → Bool) (old new : List ℕ) (left : ℕ → Bool) : Type 0 where
  pub so : ℕ → Bool
  pub marked : Marked so old new
  pub all : (k : ℕ) → (so k || left k) ≡ t k

-- nothing is marked yet
pub marking-start : {t : ℕ → Bool} {s : List ℕ} → Marking t s s t
marking-start = record { so = λ k. false; marked = marked-none (λ k. refl); all = λ k. refl }

-- a call marked the first of what is left
pub marking-less : {t left p rest : ℕ → Bool} {old mid new : List ℕ} → Marking t old mid left → ((k : ℕ) → left k ≡ (p k || rest k)) → Marked p mid new → Marking t old new rest
marking-less {p = p} {rest = rest} m e n =
    record {
      so = λ k. m.so k || p k;
      marked = marked-then m.marked n;
      all = λ k. or_assoc (m.so k) (p k) (rest k) ∙ ap (m.so k ||◌) (sym (e k)) ∙ m.all k;
    }

-- nothing is left
pub marking-done : {t left : ℕ → Bool} {old new : List ℕ} → Marking t old new left → ((k : ℕ) → left k ≡ false) → Marked t old new
marking-done {t} {left} m none = marked-as m.marked (λ k. sym (or-false (m.so k)) ∙ ap (m.so k ||◌) (sym (none k)) ∙ m.all k)
