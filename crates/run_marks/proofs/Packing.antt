-- The tests of rows packed a byte at a time. Assumes nothing.
use Prim.Native.Nat.{ℕ, ◌+◌, ◌-◌, ◌*◌, ◌/◌, ◌%◌, ◌^◌, ◌≤◌, ◌<◌, min}
use mathlib.Core.Bool.{Bool, true, false}
use mathlib.Core.List.{List, [], ◌∷◌, ◌++◌, append-nil}
use mathlib.Core.Logic.{dite}
use mathlib.Core.Path.{◌≡◌, refl, sym, ap, ap₂, ◌∙◌}
use native.Mathlib.Nat.{lt_of_lt_of_le}
use native.Mathlib.Decide.{dec_le}
use native.Mathlib.Omega.{arith}
use mir.Val.{bool_byte}
use lib.ListN.{length, set}
use lib.Seq.{drop-length}
use lib.Pow.{pow_mono}
use Rattle.format.specs.Bytes.{table, one, to_le, bytes_for, packed, over}
use Rattle.format.specs.Words.{word_of}
use Rattle.format.specs.Slots.{slots_from, word_from}
use Rattle.format.proofs.Put.{Left, whole, stored, done, wrote-front}
use Rattle.format.proofs.SlotLaws.{length-slots, slots-cat}
use Rattle.format.proofs.WordLaws.{word_lt, from-lt, from-cat}
use Rattle.format.proofs.PackedLaws.{packed-word, packed-append}
use Rattle.marks.proofs.Stored.{length-rows}

-- ---- a byte made row by row

module _ (p : ℕ → Bool) where
  pub word_none : (to : ℕ) → 0 ≡ word_from p (to - to) to
  unfolding word_from slots_from word_of
  word_none to = let e : to - to ≡ 0 = omega arith in rw e

bit-small : (t : Bool) (n : ℕ) → n ≤ 7 → bool_byte t * 2 ^ n % 256 ≡ one t * 2 ^ n
bit-small true n h = omega (arith, pow_mono h)
bit-small false n h = omega arith

module _ (p : ℕ → Bool) where
  word-one : (i : ℕ) → word_from p 1 i ≡ one (p i)
  unfolding word_from slots_from word_of
  word-one i = omega arith

  -- at most eight rows are a byte
  pub word_byte : (n i x : ℕ) → x ≡ word_from p n i → n ≤ 8 → x < 256
  word_byte n i x e h = rw e (lt_of_lt_of_le (from-lt p n i) (pow_mono h))

  -- the row after them is the next bit
  pub word_next : (from r x : ℕ) (t : Bool) → from ≤ r → r ≤ from + 7 → x ≡ word_from p (r - from) from → t ≡ p r
      → x + bool_byte t * 2 ^ (r - from) % 256 ≡ word_from p (r + 1 - from) from
  word_next from r x t l h ex et =
      let n : r + 1 - from ≡ r - from + 1 = omega arith in
      let at : from + (r - from) ≡ r = omega arith in
      let small = bit-small t (r - from) (omega arith) in
      let set : word_from p 1 r ≡ one t = word-one r ∙ ap one (sym et) in
      rw n (omega (arith, small, ex, rw (at, set) at (from-cat p (r - from) 1 from)))

-- ---- bytes of rows

-- at most eight bits are one byte
packed_byte : (ts : List Bool) → 0 < length ts → length ts ≤ 8 → packed ts ≡ word_of ts ∷ []
unfolding bytes_for to_le table
packed_byte ts h l =
    let few : bytes_for (length ts) ≡ 1 = omega arith in
    let small : word_of ts < 256 = lt_of_lt_of_le (word_lt ts) (pow_mono l) in
    let low : word_of ts / 1 % 256 ≡ word_of ts = omega arith in
    packed-word ts ∙ rw few (ap (◌∷ []) low)

packed_none : packed [] ≡ []
unfolding packed bytes_for table
packed_none = refl

-- the first eight of the rows from r on, or as many as there are, and the bytes of the others
byte_next : (p : ℕ → Bool) (len r next : ℕ) → r < len → next ≡ min len (r + 8) → packed (slots_from p (len - r) r) ≡ word_from p (next - r) r ∷ packed (slots_from p (len - next) next)
unfolding word_from slots_from
byte_next p len r next h e =
    let m : ℕ = next - r in
    let all : len - r ≡ m + (len - next) = omega arith in
    let place : r + m ≡ next = omega arith in
    let xs = slots_from p m r in
    let ys = slots_from p (len - next) next in
    let long : length xs ≡ m = length-slots p m r in
    let cut : slots_from p (len - r) r ≡ xs ++ ys = ap (λ (k : ℕ). slots_from p k r) all ∙ slots-cat p m (len - next) r ∙ ap (λ (k : ℕ). xs ++ slots_from p (len - next) k) place in
    let first : packed xs ≡ word_of xs ∷ [] = packed_byte xs (omega arith) (omega arith) in
    let both : packed (xs ++ ys) ≡ packed xs ++ packed ys =
    dite (dec_le (r + 8) len) (λ full. packed-append 1 xs ys (omega arith))
    (λ last. let none : len - next ≡ 0 = omega arith in rw (none, append-nil, packed_none, append-nil)) in
    ap packed cut ∙ both ∙ rw first

-- ---- a bitmap written byte by byte

pub byte-inside : (n : ℕ) (old : List ℕ) → length old ≡ bytes_for n → (k : ℕ) → k < length old → 8 * k < n
unfolding bytes_for
byte-inside n old long k h = omega arith

module _ (p : ℕ → Bool) (n : ℕ) where
  rows_none : (r : ℕ) → n ≤ r → packed (slots_from p (n - r) r) ≡ []
  unfolding slots_from
  rows_none r h = let e : n - r ≡ 0 = omega arith in rw e packed_none

  -- the rows past the next eight, or past the last
  rows_past : (r next : ℕ) → next ≡ min n r → packed (slots_from p (n - next) next) ≡ packed (slots_from p (n - r) r)
  rows_past r next e =
      dite (dec_le r n) (λ h. let q : next ≡ r = omega arith in rw q)
      (λ h. rows_none next (omega arith) ∙ sym (rows_none r (omega arith)))

  -- the bytes before byte k are written
  abbrev pub Bytes : List ℕ → List ℕ → ℕ → Type 0
  Bytes old new k = Left old 0 (packed (slots_from p n 0)) new k (packed (slots_from p (n - 8 * k) (8 * k)))

  module _ {old : List ℕ} (long : length old ≡ bytes_for n) where
    pub bytes-none : Bytes old old 0
    bytes-none = let e : n - 8 * 0 ≡ n = omega arith in whole refl (rw e)

    pub byte_more : {new : List ℕ} {k x next : ℕ} → Bytes old new k → 8 * k < n → next ≡ min n (8 * k + 8) → x ≡ word_from p (next - 8 * k) (8 * k) → Bytes old (set new k x) (k + 1)
    byte_more {k = k} l h e ex =
        let up : 8 * k + 8 ≡ 8 * (k + 1) = omega arith in
        stored l (byte_next p n (8 * k) _ h e ∙ ap₂ ◌∷◌ (sym ex) (rows_past (8 * (k + 1)) _ (rw up at e))) refl

    pub bytes-done : {new : List ℕ} {k : ℕ} → Bytes old new k → length old ≤ k → new ≡ packed (slots_from p n 0)
    unfolding over bytes_for
    bytes-done l h =
        let all : length (packed (slots_from p n 0)) ≡ length old = length-rows p n ∙ sym long in
        wrote-front (done l (rows_none _ (omega (arith, long))) refl) (omega arith) ∙ rw (all, drop-length old) (append-nil _)
