-- Pushes one after another: what they leave waiting, what they have written, and the room they need. Assumes nothing.
use Prim.Native.Nat.{ℕ, ◌+◌, ◌-◌, ◌*◌, ◌%◌, ◌^◌, ◌≤◌, ◌<◌}
use mathlib.Core.Path.{◌≡◌, refl, sym, ap, ◌∙◌}
use mathlib.Core.Bool.{Bool}
use mathlib.Core.List.{List, [], ◌∷◌, ◌++◌, append-nil, append_assoc}
use native.Mathlib.Omega.{arith}
use lib.Bits.{bit_and, and_le_r, and_mask}
use lib.ListN.{length, length-append, length-drop}
use Rattle.std.specs.Prelude.{None, Some}
use Rattle.format.specs.Bytes.{join, table, to_le, bytes_for, packed}
use Rattle.format.specs.Words.{low_bits, word_of, full_words, spare}
use Rattle.format.specs.Write.{numbers}
use Rattle.format.specs.Put.{Wrote}
use Rattle.format.proofs.Measure.{length-numbers, length-to_le}
use Rattle.format.proofs.WordLaws.{low-mod}
use Rattle.format.proofs.Put.{then, named, none, same_size}
use Rattle.format.proofs.PackedLaws.{numbers-one, length-spare, length-words}
use Rattle.format.proofs.Numbers.{numbers-append}
use Rattle.bits.specs.Pack.{packing}
use Rattle.bits.proofs.PackLaws.{partial-is, full-is, partial-words, full-words, flushed}
use Rattle.bitmaps.specs.declared.Bitmap.{Bitmap}
use Rattle.bitmaps.specs.Push.{Room, Packs, Adds}

-- the low bits of a value, cut out by as many ones
module _ (value n m : ℕ) (e : m + 1 ≡ 2 ^ n) where
  cut : bit_and value m ≡ value % 2 ^ n
  cut = let l : m ≡ 2 ^ n - 1 = omega arith in ap (bit_and value) l ∙ and_mask value n

  pub cut-lt : bit_and value m < 2 ^ n
  cut-lt = omega (arith, and_le_r value m)

  pub cut_low : low_bits n (bit_and value m) ≡ low_bits n value
  cut_low = rw cut (low-mod n value)

-- ---- one push

module _ {us : List Bool} {from to : Bitmap} (few : length us ≤ 64) (same : to.out.ghost_name ≡ from.out.ghost_name) where
  -- no word is full yet
  pub adds-none : (to.packer, None) ≡ packing (from.packer ++ us) → to.here ≡ from.here → to.out.now ≡ from.out.now → Adds us from to
  adds-none e here out = record {
    more = λ {ts} p.
        let (words, waits) = partial-words ts us (rw p.waits at e) in
        record { wrote = rw (words, out, here) p.wrote; waits = waits };
    words = 0;
    here = omega arith;
    filled = rw ((partial-is (from.packer ++ us) e).1, length-append) (omega arith);
    size = ap length out;
    same_reference = same;
  }

  -- or one is, and is written
  pub adds-word : (w : ℕ) → (to.packer, Some w) ≡ packing (from.packer ++ us) → Wrote from.out.now from.here (to_le 8 w) to.out.now to.here → Adds us from to
  adds-word w e put = record {
    more = λ {ts} p.
        let (words, waits) = full-words ts us w few (rw p.waits at e) in
        record { wrote = named (then p.wrote (named put (sym (numbers-one 8 w)))) (rw words (sym (numbers-append 8 (full_words ts) (w ∷ [])))); waits = waits };
    words = 1;
    here = put.place ∙ ap (from.here +◌) (length-to_le 8 w);
    filled =
        let (long, left, _) = full-is (from.packer ++ us) e in
        rw left (omega (arith, length-drop 64 (from.packer ++ us), length-append from.packer us));
    size = same_size put;
    same_reference = same;
  }

-- the word that a push fills has room
pub word-room : (from : Bitmap) {left : List Bool} (us : List Bool) {w : ℕ} (n : ℕ) → length us ≡ n → Room from n → (left, Some w) ≡ packing (from.packer ++ us)
    → from.here + 8 ≤ length from.out.now
word-room from us n size room e = omega (arith, (full-is (from.packer ++ us) e).0, length-append from.packer us)

-- ---- pushes one after another

-- nothing is pushed yet
pub packs-none : {to : Bitmap} {old : List ℕ} {at : ℕ} → to.out.now ≡ old → to.here ≡ at → to.packer ≡ [] → Packs [] old at to
unfolding full_words spare numbers join table
packs-none out here packer = record { wrote = rw (out, here) (none refl refl); waits = packer }

module _ {ts : List Bool} {old : List ℕ} {at : ℕ} {from : Bitmap} (p : Packs ts old at from) where
  -- there is room for n bits more, where all of them fit
  pub packs-room : (n all : ℕ) → length ts + n ≤ all → at + bytes_for all ≤ length old → Room from n
  unfolding bytes_for
  packs-room n all l fit =
      let here = p.wrote.place ∙ ap (at +◌) (length-numbers 8 (full_words ts) ∙ ap (8 *◌) (length-words ts)) in
      let size = same_size p.wrote in
      let filled = ap length p.waits ∙ length-spare ts in
      omega arith

  -- what waits at the end is written as bytes
  pub packs-done : {new : List ℕ} {next : ℕ} → Wrote from.out.now from.here (to_le (bytes_for (length from.packer)) (word_of from.packer)) new next
      → Wrote old at (packed ts) new next
  packs-done h = named (then p.wrote h) (rw p.waits (sym (flushed ts)))

  pub flush-room : at + length (packed ts) ≤ length old → from.here + bytes_for (length from.packer) ≤ length from.out.now
  flush-room fit =
      let size = same_size p.wrote in
      let all = ap length (flushed ts) ∙ length-append (numbers 8 (full_words ts)) _ in
      let tail = length-to_le (bytes_for (length (spare ts))) (word_of (spare ts)) in
      let here = p.wrote.place in
      rw p.waits (omega arith)

-- what is left behind the reference is what the output becomes
pub left-in : {old : List ℕ} {at : ℕ} {bs left new : List ℕ} {next : ℕ} → new ≡ left → Wrote old at bs left next → Wrote old at bs new next
left-in e h = rw e h

-- ---- several pushes as one

pub adds_none : {from : Bitmap} → Adds [] from from
adds_none = record {
  more = λ {ts} p. rw (append-nil ts) p;
  words = 0;
  here = omega arith;
  filled = omega arith;
  size = refl;
  same_reference = refl;
}

module _ {us : List Bool} {from to : Bitmap} where
  pub adds_then : {vs : List Bool} {last : Bitmap} → Adds us from to → Adds vs to last → Adds (us ++ vs) from last
  adds_then {vs} p q = record {
    more = λ {ts} h. rw (← append_assoc ts us vs) (q.more (p.more h));
    words = p.words + q.words;
    here = omega (arith, p.here, q.here);
    filled = rw length-append (omega (arith, p.filled, q.filled));
    size = q.size ∙ p.size;
    same_reference = q.same_reference ∙ p.same_reference;
  }

  -- there is room for n bits more, where there was room for all
  pub adds-room : (all n : ℕ) → Adds us from to → length us + n ≤ all → Room from all → Room to n
  adds-room all n p l fit = omega (arith, p.here, p.filled, p.size)
