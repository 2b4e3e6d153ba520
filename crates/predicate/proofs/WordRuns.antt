-- Runs within a word of the mask: its first kept row, and the first row after it that is not kept. Over any test p of the rows below len. Assumes nothing.
use Rattle.std.proofs.Common.{◌≡◌, ℕ, zero, suc, ◌+◌, ◌-◌, ◌*◌, ◌/◌, ◌%◌, ◌^◌, ◌<◌, ◌≤◌, Bool, true, false, not, leb, List, [], sym, refl, ◌∙◌, ⊎_elim, true≢false, eq-zero-or-pos, eq-or-lt_of_le, pow-suc, arith, leb-true}
use mathlib.Core.Bool.{and-eq-true_iff}
use mathlib.Core.Logic.{dite}
use native.Mathlib.Decide.{dec_le}
use lib.Count.{count_trailing_zeros, trailing_le}
use Rattle.format.specs.Bytes.{one}
use Rattle.format.specs.Rows.{set_rows}
use Rattle.format.specs.Slots.{slots_from, word_from, after, count_up, All}
use Rattle.format.specs.Words.{word_of}
use Rattle.format.proofs.RowLaws.{up_none}
use Rattle.format.proofs.SlotLaws.{all_none, all-less, all_join, after_is}
use Rattle.format.proofs.WordLaws.{from-ext, from-clear, from_zero, Lowest, lowest_set}
use Rattle.scan.proofs.Scan.{Scanned, Hit, hit}
use Rattle.predicate.specs.declared.Block.{Block}
use Rattle.predicate.specs.Blocks.{picks_on, Leaves, Worded, Found, Filled, Ran}
use Rattle.predicate.proofs.Picks.{picks-span}
use Rattle.predicate.proofs.Steps.{word-leaves}

-- ---- the word of the rows that are not kept

abbrev no : (ℕ → Bool) → ℕ → Bool
no p j = not (p j)

-- it has the zeros of the word as its ones
from-not : (p : ℕ → Bool) (n i : ℕ) → word_from (no p) n i + word_from p n i + 1 ≡ 2 ^ n
unfolding word_from slots_from word_of
from-not p zero i = refl
from-not p (suc n) i = rw pow-suc (go (p i) (from-not p n (suc i)))
  where
    go : (t : Bool) → word_from (no p) n (suc i) + word_from p n (suc i) + 1 ≡ 2 ^ n
        → (one (not t) + 2 * word_from (no p) n (suc i)) + (one t + 2 * word_from p n (suc i)) + 1 ≡ 2 ^ n * 2
    go true ih = omega arith
    go false ih = omega arith

pub zeros-word : (p : ℕ → Bool) (i : ℕ) {x : ℕ} → x ≡ word_from p 64 i → 0xFFFF_FFFF_FFFF_FFFF - x ≡ word_from (no p) 64 i
zeros-word p i is = let e = from-not p 64 i in omega arith

-- a row that fails the opposite passes
back : {p : ℕ → Bool} {a e : ℕ} → All (no p) false a e → All p true a e
back {p} all = record { at = λ j l h. go (p j) (all.at j l h) }
  where
    go : (t : Bool) → not t ≡ false → t ≡ true
    go true e = refl
    go false e = sym e

-- the rows of a word before its lowest zero are kept
pub ones_low : (p : ℕ → Bool) (i : ℕ) {x : ℕ} → x ≡ word_from p 64 i → All p true i (i + count_trailing_zeros 64 (0xFFFF_FFFF_FFFF_FFFF - x))
ones_low p i is = rw (zeros-word p i is) (⊎_elim none some (eq-zero-or-pos (word_from (no p) 64 i)))
  where
    none : word_from (no p) 64 i ≡ 0 → All p true i (i + count_trailing_zeros 64 (word_from (no p) 64 i))
    none z = all-less (omega (arith, trailing_le 64 (word_from (no p) 64 i))) (back (from_zero (no p) 64 i z))

    some : 0 < word_from (no p) 64 i → All p true i (i + count_trailing_zeros 64 (word_from (no p) 64 i))
    some l = back (lowest_set (no p) 64 i l).fails

-- ---- the zeros after a word's first kept row

module _ (q : ℕ → Bool) (i t : ℕ) {x y : ℕ} (l : t ≤ 64) (is : x ≡ word_from q 64 i) (cut : y ≡ (0xFFFF_FFFF_FFFF_FFFF - x) / 2 ^ t * 2 ^ t % 2 ^ 64) where
  pub gap_word : y ≡ word_from (after (no q) (i + t)) 64 i
  gap_word = cut ∙ rw (zeros-word q i is) (from-clear (no q) 64 i t l)

-- rows from a on that are not among the rows not kept, of a test cut to those from `from` on
kept_on : (p : ℕ → Bool) (from a i : ℕ) {e : ℕ} → i ≤ a → All (after (no (after p from)) a) false i e → All p true a e
kept_on p from a i {e} h all = record { at = λ j l k. ((and-eq-true_iff (leb from j) (p j)).0 (both.at j l k)).1 }
  where
    both : All (after p from) true a e
    both = back (record { at = λ j l k. sym (after_is (no (after p from)) a j l) ∙ all.at j (omega arith) k })

-- ---- a run off the picks

pub run-leaves : {p : ℕ → Bool} {len from a e q : ℕ} → Ran p len from a e → q ≡ e → Leaves p len from (count_up (e - a) a) q
run-leaves {len = len} r s =
    let low = r.low in
    let some = r.some in
    let high = r.high in
    record { rest = rw s (picks-span len low (omega arith) high r.before r.within); moves = omega arith; inside = omega arith }

-- rows that are not kept are passed over
module _ {p : ℕ → Bool} {len from to : ℕ} (l : from ≤ to) (h : to ≤ len) (gap : All p false from to) where
  pub picks-skip : picks_on p len from ≡ picks_on p len to
  picks-skip =
      let none : count_up (to - to) to ≡ [] = up_none _ _ (omega arith) in
      rw none at (picks-span len l (omega arith) h gap (all_none (omega arith)))

  pub leaves-on : {xs : List ℕ} {place : ℕ} → Leaves p len to xs place → Leaves p len from xs place
  leaves-on f = let m = f.moves in record { rest = picks-skip ∙ f.rest; moves = omega arith; inside = f.inside }

  pub worded-on : (r : Block × ℕ) → Worded p len to r → Worded p len from r
  worded-on r f = (f.0, leaves-on f.1)

-- nothing is left of a word from row `from` on: no row of it is kept
pub none-after : {p : ℕ → Bool} {from i : ℕ} → i ≤ from → word_from (after p from) 64 i ≡ 0 → All p false from (i + 64)
none-after {p} {from} {i} l z =
    let none = from_zero (after p from) 64 i z in
    record { at = λ j m h. sym (after_is p from j m) ∙ none.at j (omega arith) h }

-- ---- what is left of word w, some row of it

module _ {p : ℕ → Bool} {from w x : ℕ} (f : Found p from w x) where
  -- its first row
  pub first-row : Hit p w from x (64 * w + count_trailing_zeros 64 x)
  first-row = hit scan x f.is f.some
    where
      scan : Scanned p from w from from
      scan = record { low = omega arith; order = omega arith; near = f.near; begun = λ _. refl; before = all_none (omega arith); within = all_none (omega arith); gap = f.gap }

  -- its rows, one by one
  pub found_word : {len q : ℕ} → ((j : ℕ) → len ≤ j → p j ≡ false) → 64 * w + 64 ≤ len → q ≡ 64 * w + 64 → Leaves p len from (set_rows (64 * w) x) q
  found_word {len} {q} past h e =
      let near = first-row.inside in
      let low = first-row.beyond in
      dite (dec_le (64 * w) from)
      (λ (l : 64 * w ≤ from). inside l)
      (λ l. let m : from ≤ 64 * w = omega arith in leaves-on m (omega arith) f.gap (word-leaves p past (fresh m) (omega arith) (omega arith) h e))
    where
      inside : 64 * w ≤ from → Leaves p len from (set_rows (64 * w) x) q
      inside l =
          let near = first-row.inside in
          let low = first-row.beyond in
          word-leaves p past f.is l (omega arith) h e

      fresh : from ≤ 64 * w → x ≡ word_from (after p (64 * w)) 64 (64 * w)
      fresh m = f.is ∙ from-ext _ _ 64 (64 * w) (λ j a k. after_is p from j (omega arith) ∙ sym (after_is p (64 * w) j a))

  module _ {y : ℕ} (cut : y ≡ (0xFFFF_FFFF_FFFF_FFFF - x) / 2 ^ count_trailing_zeros 64 x * 2 ^ count_trailing_zeros 64 x % 2 ^ 64) where
    zeros : y ≡ word_from (after (no (after p from)) (64 * w + count_trailing_zeros 64 x)) 64 (64 * w)
    zeros = gap_word (after p from) (64 * w) (count_trailing_zeros 64 x) (trailing_le 64 x) f.is cut

    -- a run that goes on in the words after it
    pub found-on : {len v e : ℕ} → y ≡ 0 → v ≡ w + 1 → Filled p (64 * v) len e → Ran p len from (64 * w + count_trailing_zeros 64 x) e
    found-on {len} {v} {e} z n more =
        let k = first-row in
        let near = k.inside in
        let to : 64 * v ≡ 64 * w + 64 = omega arith in
        let low = more.low in
        let word : All p true (64 * w + count_trailing_zeros 64 x) (64 * w + 64) = kept_on p from _ (64 * w) (omega arith) (from_zero _ 64 (64 * w) (sym zeros ∙ z)) in
        record { low = k.beyond; some = omega arith; high = more.high; before = k.skipped; within = all_join word (rw (← to) more.all) }

    -- a run that ends within the word
    module _ (ne : y ≡ 0 → ⊥) where
      pos : 0 < y
      pos = ⊎_elim (λ (z : y ≡ 0). absurd (ne z)) (λ l. l) (eq-zero-or-pos y)

      ends_at : Lowest (after (no (after p from)) (64 * w + count_trailing_zeros 64 x)) 64 (64 * w) (count_trailing_zeros 64 y)
      ends_at = rw zeros (lowest_set _ 64 (64 * w) (rw zeros at pos))

      pub end-near : count_trailing_zeros 64 y < 64
      end-near = ends_at.inside

      pub end_after : 64 * w + count_trailing_zeros 64 x < 64 * w + count_trailing_zeros 64 y
      end_after =
          let a = 64 * w + count_trailing_zeros 64 x in
          let e = 64 * w + count_trailing_zeros 64 y in
          let both = (and-eq-true_iff (leb a e) (no (after p from) e)).0 ends_at.passes in
          let l : a ≤ e = leb-true a e both.0 in
          let here : after p from a ≡ true = after_is p from a first-row.beyond ∙ first-row.passes in
          ⊎_elim (λ (s : a ≡ e). absurd (true≢false (sym both.1 ∙ rw (← s, here)))) (λ m. m) (eq-or-lt_of_le l)

      pub found-run : {len : ℕ} → 64 * w + 64 ≤ len → Ran p len from (64 * w + count_trailing_zeros 64 x) (64 * w + count_trailing_zeros 64 y)
      found-run {len} h =
          let k = first-row in
          let near = end-near in
          record { low = k.beyond; some = end_after; high = omega arith; before = k.skipped; within = kept_on p from _ (64 * w) (omega arith) ends_at.fails }
