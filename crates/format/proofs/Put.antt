-- The laws of a write, and of what a loop of writes has left to write. Only `put-parts`, `put_front`, `wrote-front`, `put-at` and `bit-put` ask that the bytes fit. Assumes nothing.
use Rattle.std.proofs.Common.{◌≡◌, ℕ, zero, suc, ◌+◌, ◌*◌, ◌-◌, ◌/◌, ◌%◌, ◌<◌, ◌≤◌, List, [], ◌∷◌, ◌++◌, length, get_or, take, drop, drop-drop, add-sub_of_le, set, sym, refl, subst, append_assoc, ap, ◌∙◌, ap₂, add-zero, zero-add, add-one, arith, length-append, length-set, get_or-set_other, get_or-set_same}
use borrow.Rule.Slice.PartMut.{put_mid}
use lib.Seq.{sets, sets-eq}
use Rattle.format.specs.Bytes.{bit_in, over}
use Rattle.format.specs.Put.{put, Wrote}

-- two writes one after the other are one
pub put-append : (old : List ℕ) (at : ℕ) (xs ys : List ℕ) → put old at (xs ++ ys) ≡ put (put old at xs) (at + length xs) ys
unfolding put
put-append old at [] ys = ap (λ (k : ℕ). put old k ys) (sym (add-zero at))
put-append old at (x ∷ xs) ys =
    let e : suc at + length xs ≡ at + suc (length xs) = omega arith in
    put-append (set old at x) (suc at) xs ys ∙ ap (λ (k : ℕ). put (put (set old at x) (suc at) xs) k ys) e

pub length-put : (old : List ℕ) (at : ℕ) (bs : List ℕ) → length (put old at bs) ≡ length old
unfolding put
length-put old at [] = refl
length-put old at (b ∷ bs) = length-put (set old at b) (suc at) bs ∙ length-set old at b

as-sets : (old : List ℕ) (at : ℕ) (bs : List ℕ) → put old at bs ≡ sets old at bs
unfolding put
as-sets old at [] = refl
as-sets old at (b ∷ bs) = as-sets (set old at b) (suc at) bs

-- a write by its parts, where the bytes fit
pub put-parts : (old : List ℕ) (at : ℕ) (bs : List ℕ) → at + length bs ≤ length old → put old at bs ≡ take at old ++ bs ++ drop (at + length bs) old
put-parts old at bs fit = as-sets old at bs ∙ sets-eq bs old at fit

-- a write through a lent part that the bytes fill
pub put-part : (old : List ℕ) (at end : ℕ) (bs : List ℕ) → at ≤ end → end ≤ length old → length bs ≡ end - at → put_mid at (end - at) old bs ≡ put old at bs
put-part old at end bs below fit long =
    let past : at + length bs ≡ end = omega arith in
    rw (drop-drop, add-sub_of_le below, ← append_assoc) (sym (subst (λ (n : ℕ). put old at bs ≡ take at old ++ bs ++ drop n old) past (put-parts old at bs (omega arith))))

-- a write at the front, as a call's promise states it
pub put_front : (old bs : List ℕ) → length bs ≤ length old → put old 0 bs ≡ over bs old
unfolding over
put_front old bs fit = put-parts old 0 bs (omega arith) ∙ rw zero-add

pub wrote-front : {old bs new : List ℕ} {next : ℕ} → Wrote old 0 bs new next → length bs ≤ length old → new ≡ over bs old
wrote-front {old} {bs} w fit = w.bytes ∙ put_front old bs fit

-- ---- what stands there after a write, byte by byte and bit by bit

pub put-before : (old : List ℕ) (at : ℕ) (bs : List ℕ) (i : ℕ) → i < at → get_or (put old at bs) i 0 ≡ get_or old i 0
unfolding put
put-before old at [] i h = refl
put-before old at (b ∷ bs) i h = put-before (set old at b) (suc at) bs i (omega arith) ∙ get_or-set_other old at i b 0 (λ e. omega arith)

pub put-at : (old : List ℕ) (at : ℕ) (bs : List ℕ) (i : ℕ) → i < length bs → at + length bs ≤ length old → get_or (put old at bs) (at + i) 0 ≡ get_or bs i 0
unfolding put
put-at old at [] i h fit = absurd (omega arith)
put-at old at (b ∷ bs) zero h fit =
    rw add-zero (put-before (set old at b) (suc at) bs at (omega arith) ∙ get_or-set_same old at b 0 (omega arith))
put-at old at (b ∷ bs) (suc i) h fit =
    let next : at + suc i ≡ suc at + i = omega arith in
    rw next (put-at (set old at b) (suc at) bs i (omega arith) (omega (arith, length-set old at b)))

pub put-past : (old : List ℕ) (at : ℕ) (bs : List ℕ) (i : ℕ) → at + length bs ≤ i → get_or (put old at bs) i 0 ≡ get_or old i 0
unfolding put
put-past old at [] i h = refl
put-past old at (b ∷ bs) i h = put-past (set old at b) (suc at) bs i (omega arith) ∙ get_or-set_other old at i b 0 (λ e. omega arith)

pub bit-before : (old : List ℕ) (at : ℕ) (bs : List ℕ) (k : ℕ) → k < 8 * at → bit_in (put old at bs) k ≡ bit_in old k
unfolding bit_in
bit-before old at bs k h = rw (put-before old at bs (k / 8) (omega arith))

pub bit-put : (old : List ℕ) (at : ℕ) (bs : List ℕ) (k : ℕ) → k < 8 * length bs → at + length bs ≤ length old → bit_in (put old at bs) (8 * at + k) ≡ bit_in bs k
unfolding bit_in
bit-put old at bs k h fit =
    let q : (8 * at + k) / 8 ≡ at + k / 8 = omega arith in
    let r : (8 * at + k) % 8 ≡ k % 8 = omega arith in
    rw (q, r, put-at old at bs (k / 8) (omega arith) fit)

-- ---- a run of writes: `then` joins two

-- nothing written
pub none : {old : List ℕ} {at : ℕ} {bs : List ℕ} {next : ℕ} → bs ≡ [] → next ≡ at → Wrote old at bs old next
unfolding put
none {old} {at} e n = record { bytes = ap (put old at) (sym e); place = omega (arith, ap length e) }

module _ {old : List ℕ} {at : ℕ} {xs new : List ℕ} {here : ℕ} where
  pub then : {ys last : List ℕ} {next : ℕ} → Wrote old at xs new here → Wrote new here ys last next → Wrote old at (xs ++ ys) last next
  then {ys} p q = record {
    bytes = q.bytes ∙ rw (p.bytes, p.place) (sym (put-append old at xs ys));
    place = simp length-append (omega arith);
  }

  -- the bytes under another name
  pub named : {ys : List ℕ} → Wrote old at xs new here → xs ≡ ys → Wrote old at ys new here
  named p e = rw e at p

  -- a writer keeps the output's length
  pub same_size : Wrote old at xs new here → length new ≡ length old
  same_size p = ap length p.bytes ∙ length-put old at xs

-- ---- a loop of writes: its invariant says what is left to write

-- to write `rest` at `here` is all that is left of writing `bs` at `at`
pub record Left (old : List ℕ) (at : ℕ) (bs new : List ℕ) (here : ℕ) (rest : List ℕ) : Type 0 where
  pub bytes : put new here rest ≡ put old at bs
  pub place : here + length rest ≡ at + length bs

-- nothing is written yet
pub whole : {old : List ℕ} {at here : ℕ} {bs rest : List ℕ} → here ≡ at → rest ≡ bs → Left old at bs old here rest
whole {old} p e = record { bytes = ap₂ (put old) p e; place = ap₂ ◌+◌ p (ap length e) }

module _ {old : List ℕ} {at : ℕ} {bs new : List ℕ} {here : ℕ} {rest : List ℕ} where
  pub kept : Left old at bs new here rest → length new ≡ length old
  kept p = sym (length-put new here rest) ∙ ap length p.bytes ∙ length-put old at bs

  -- what is left, under another name
  pub still : {ys : List ℕ} → Left old at bs new here rest → rest ≡ ys → Left old at bs new here ys
  still p e = rw e at p

  -- a call wrote the first of what is left
  pub less : {xs ys last : List ℕ} {next : ℕ} → Left old at bs new here rest → rest ≡ xs ++ ys → Wrote new here xs last next → Left old at bs last next ys
  less {xs} {ys} p e w = record {
    bytes = rw (w.bytes, w.place) (sym (put-append new here xs ys) ∙ ap (put new here) (sym e) ∙ p.bytes);
    place = omega (arith, p.place, w.place, ap length e ∙ length-append xs ys);
  }

  -- there is room for the first of what is left
  pub room : (xs ys : List ℕ) → Left old at bs new here rest → rest ≡ xs ++ ys → at + length bs ≤ length old → here + length xs ≤ length new
  room xs ys p e fit = omega (arith, p.place, kept p, ap length e ∙ length-append xs ys)

  -- a store wrote the first byte of what is left
  pub stored : {b next : ℕ} {ys : List ℕ} → Left old at bs new here rest → rest ≡ b ∷ ys → next ≡ here + 1 → Left old at bs (set new here b) next ys
  unfolding put
  stored {b} {ys} p e n = record {
    bytes = rw (n, add-one) (ap (put new here) (sym e) ∙ p.bytes);
    place = omega (arith, p.place, ap length e);
  }

  -- nothing is left
  pub done : {next : ℕ} → Left old at bs new here rest → rest ≡ [] → next ≡ here → Wrote old at bs new next
  unfolding put
  done p e n = record {
    bytes = ap (put new here) (sym e) ∙ p.bytes;
    place = omega (arith, p.place, ap length e);
  }
