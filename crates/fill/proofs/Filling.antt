-- Scratch filled node by node: the bitmaps of the children of the first n nodes stand one after another from the front. Assumes nothing.
use Prim.Native.Nat.{ℕ, zero, suc, ◌+◌, ◌-◌, ◌*◌, ◌/◌, ◌^◌, ◌≤◌, ◌<◌}
use mathlib.Core.Bool.{Bool, true, false, cond, false≢true}
use mathlib.Core.List.{List, [], ◌++◌}
use mathlib.Core.Logic.{⊎_elim}
use mathlib.Core.Path.{◌≡◌, refl, sym, ap, ◌∙◌}
use native.Mathlib.Nat.{eq-or-lt_of_le, add-suc, add-zero}
use native.Mathlib.Numerals.{add-one}
use native.Mathlib.Omega.{arith}
use lib.ListN.{length, get_or, set, take}
use lib.Seq.{get_or-set_same, get_or-set_other, get_or-take, length-take-le}
use Rattle.format.specs.Bytes.{sum_below, bit_in, bytes_for, packed}
use Rattle.format.specs.Node.{node_count, rows, child}
use Rattle.format.specs.Slots.{slots_from}
use Rattle.format.specs.Answer.{takes_scratch, scratch_needed}
use Rattle.format.specs.Put.{Wrote}
use Rattle.format.specs.Accepted.{Sound}
use Rattle.format.proofs.Laws.{sum_more}
use Rattle.format.proofs.Put.{bit-before, bit-put, none, then, same_size}
use Rattle.nesting.specs.Rows.{keeps}
use Rattle.nesting.proofs.ByKind.{rows-small}
use Rattle.nesting.proofs.Scratch.{share, bytes-few, takes_one}
use Rattle.marks.proofs.Stored.{length-rows}
use Rattle.fill.specs.Scratch.{Bitmap, takes_bitmap, Earlier, Filled}
use Rattle.fill.proofs.Reading.{bitmap-takes}
use Rattle.fill.proofs.Stored.{bit-rows}

-- ---- the scratch needed is not much

module _ {b : List ℕ} (s : Sound b) where
  share-few : (k : ℕ) → k < node_count b → share b k ≤ 1_048_576
  share-few k h = go (takes_scratch b k) refl
    where
      go : (t : Bool) → takes_scratch b k ≡ t → cond t (bytes_for (rows b (child k))) 0 ≤ 1_048_576
      go true e = bytes-few _ (rows-small s (child k) (s.shape.next k h (takes_one b k e)))
      go false e = omega arith

  pub shares-few : (n : ℕ) → n ≤ node_count b → sum_below (share b) n ≤ n * 1_048_576
  unfolding sum_below
  shares-few zero h = omega arith
  shares-few (suc n) h = omega (arith, shares-few n (omega arith), share-few n (omega arith))

  pub scratch-few : scratch_needed b < 2 ^ 60
  unfolding scratch_needed
  scratch-few = omega (arith, shares-few (node_count b) (omega arith), s.shape.few)

-- ---- one bitmap

module _ (t : ℕ → Bool) (n : ℕ) {old new : List ℕ} {at next : ℕ} (w : Wrote old at (packed (slots_from t n 0)) new next) where
  next-is : next ≡ at + bytes_for n
  next-is = w.place ∙ ap (at +◌) (length-rows t n)

  -- it stands where it was written
  bitmap-new : next ≤ length old → Bitmap t n new at next
  unfolding bytes_for
  bitmap-new fit =
      let long = length-rows t n in
      record {
        inside = omega (arith, next-is);
        tells = λ j h. rw w.bytes (bit-put old at (packed (slots_from t n 0)) j (omega arith) (omega (arith, w.place)) ∙ bit-rows t n j h);
      }

-- it is read in the front of the slice in which it ends
front-bit : (s : List ℕ) (end k : ℕ) → k < 8 * end → bit_in (take end s) k ≡ bit_in s k
unfolding bit_in
front-bit s end k h = rw (get_or-take end s (k / 8) 0 (omega arith))

front-map : {t : ℕ → Bool} {n at : ℕ} (s : List ℕ) (end : ℕ) → end ≤ length s → Bitmap t n s at end → Bitmap t n (take end s) at (length (take end s))
front-map {at = at} s end fit map =
    record {
      inside = omega (arith, map.inside, length-take-le end s fit);
      tells = λ j h. front-bit s end (8 * at + j) (omega (arith, map.inside)) ∙ map.tells j h;
    }

-- what is written behind it leaves it as it is
bitmap-old : {t : ℕ → Bool} {n : ℕ} {old new bs : List ℕ} {start at next : ℕ} → Bitmap t n old start at → Wrote old at bs new next → Bitmap t n new start next
bitmap-old {old = old} {bs = bs} {at = at} m w =
    record {
      inside = omega (arith, m.inside, w.place);
      tells = λ j h. rw w.bytes (bit-before old at bs _ (omega (arith, m.inside)) ∙ m.tells j h);
    }

-- ---- the bitmaps of the children of the first n nodes

-- they take the first `at` bytes of `new`, and the rest is as in `old`
pub record FilledTo (b root : List ℕ) (n : ℕ) (old new places : List ℕ) (at : ℕ) : Type 0 where
  pub bytes : List ℕ
  pub wrote : Wrote old 0 bytes new at
  pub size : at ≤ sum_below (share b) n
  pub bitmaps : (p : ℕ) → p < n → takes_bitmap b p ≡ true → Bitmap (keeps b root (suc p)) (rows b (suc p)) new (get_or places (suc p) 0) at

pub filled_none : {b root old places : List ℕ} → FilledTo b root 0 old old places 0
unfolding sum_below
filled_none = record { bytes = []; wrote = none refl refl; size = omega arith; bitmaps = λ p h e. absurd (omega arith) }

sum-up : (f : ℕ → ℕ) (k n : ℕ) → sum_below f n ≤ sum_below f (n + k)
unfolding sum_below
sum-up f zero n = rw add-zero (omega arith)
sum-up f (suc k) n = rw add-suc (omega (arith, sum-up f k n))

-- a part of the sum is at most the scratch needed
part : (b : List ℕ) (n : ℕ) → n ≤ node_count b → sum_below (share b) n ≤ scratch_needed b
unfolding scratch_needed
part b n h = let e : node_count b ≡ n + (node_count b - n) = omega arith in rw e (sum-up (share b) (node_count b - n) n)

module _ {b : List ℕ} (s : Sound b) {i : ℕ} (h : i < node_count b) {u : Bool} (asked : u ≡ takes_bitmap b i) where
  -- node i's child takes a bitmap: it is the next
  module _ (e : u ≡ true) where
    pub takes : takes_scratch b i ≡ true
    takes = bitmap-takes b i (sym asked ∙ e)

    pub inside : i + 1 < node_count b
    inside = rw (add-one i) (s.shape.next i h (takes_one b i takes))

    module _ {root old new places : List ℕ} {at : ℕ} (room : scratch_needed b ≤ length old) (f : FilledTo b root i old new places at) where
      more : at + bytes_for (rows b (i + 1)) ≤ sum_below (share b) (i + 1)
      more =
          let own : share b i ≡ bytes_for (rows b (i + 1)) = rw (takes, add-one i) in
          omega (arith, f.size, sum_more (share b) i, own)

      pub next_fits : at + bytes_for (rows b (i + 1)) ≤ length new
      next_fits = omega (arith, more, part b (i + 1) (omega (arith, inside)), same_size f.wrote)

      pub filled_more : {last : List ℕ} {next : ℕ} → length places ≡ 64
          → Wrote new at (packed (slots_from (keeps b root (i + 1)) (rows b (i + 1)) 0)) last next
          → FilledTo b root (i + 1) old last (set places (i + 1) at) next
      filled_more {last} {next} wide w =
          record {
            bytes = f.bytes ++ packed (slots_from (keeps b root (i + 1)) (rows b (i + 1)) 0);
            wrote = then f.wrote w;
            size = omega (arith, next-is (keeps b root (i + 1)) (rows b (i + 1)) w, more);
            bitmaps = λ p l k. ⊎_elim (here p) (earlier p k) (eq-or-lt_of_le (rw add-one at l));
          }
        where
          here : (p : ℕ) → suc p ≡ suc i → Bitmap (keeps b root (suc p)) (rows b (suc p)) last (get_or (set places (i + 1) at) (suc p) 0) next
          here p q =
              let m : suc p ≡ i + 1 = omega arith in
              rw (m, get_or-set_same places (i + 1) at 0 (omega (arith, inside, s.shape.few))) (bitmap-new (keeps b root (i + 1)) (rows b (i + 1)) w (omega (arith, next-is (keeps b root (i + 1)) (rows b (i + 1)) w, next_fits)))

          earlier : (p : ℕ) → takes_bitmap b p ≡ true → suc p < suc i → Bitmap (keeps b root (suc p)) (rows b (suc p)) last (get_or (set places (i + 1) at) (suc p) 0) next
          earlier p k l = rw (get_or-set_other places (i + 1) (suc p) at 0 (λ q. omega arith)) (bitmap-old (f.bitmaps p (omega arith) k) w)

  -- it does not: nothing is written
  pub filled-same : u ≡ false → {root old new places : List ℕ} {at : ℕ} → FilledTo b root i old new places at → FilledTo b root (i + 1) old new places at
  filled-same g f =
      record {
        bytes = f.bytes;
        wrote = f.wrote;
        size = omega (arith, f.size, sum-up (share b) 1 i);
        bitmaps = λ p l k. ⊎_elim (λ (q : suc p ≡ suc i). let m : p ≡ i = omega arith in absurd (never (rw m at k))) (λ (q : suc p < suc i). f.bitmaps p (omega arith) k) (eq-or-lt_of_le (rw add-one at l));
      }
    where
      never : takes_bitmap b i ≡ true → ⊥
      never k = false≢true (sym g ∙ asked ∙ k)

-- what filling the next is given: the bitmaps before it
pub filled-earlier : {b root old new places : List ℕ} {n at : ℕ} → Sound b → n ≤ node_count b → at ≤ length new → FilledTo b root n old new places at → Earlier b root n (take at new) places
filled-earlier {new = new} {n = n} {at = at} s h fit f =
    record { few = omega (arith, f.size, shares-few s n h, s.shape.few, length-take-le at new fit); bitmaps = λ p l k. front-map new at fit (f.bitmaps p l k) }

-- ---- all of them

wider : {t : ℕ → Bool} {n : ℕ} {s : List ℕ} {at end more : ℕ} → end ≤ more → Bitmap t n s at end → Bitmap t n s at more
wider h m = record { inside = omega (arith, m.inside); tells = m.tells }

pub filled-all : {b root old new places : List ℕ} {i at : ℕ} → i ≡ node_count b → scratch_needed b ≤ length old → FilledTo b root i old new places at → Filled b root old new places
filled-all {b} {i = i} {at = at} e room f =
    let all : at ≤ scratch_needed b = omega (arith, f.size, part b i (omega arith)) in
    record {
      bytes = f.bytes;
      wrote = record { bytes = f.wrote.bytes; place = omega arith };
      size = omega (arith, f.wrote.place);
      fits = omega (arith, same_size f.wrote);
      bitmaps = λ p l k. wider all (f.bitmaps p (omega arith) k);
    }
