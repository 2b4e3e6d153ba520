-- Laws of groups: how many kept rows each run has, by the picks of one range; and the run ends written group by group. Assumes nothing.
use Prim.Native.Nat.{ℕ, zero, suc, ◌+◌, ◌-◌, ◌*◌, ◌≤◌, ◌<◌, min}
use mathlib.Core.Bool.{Bool}
use mathlib.Core.List.{List, [], ◌∷◌, ◌++◌, map, map-append}
use mathlib.Core.Logic.{⊎_elim}
use mathlib.Core.Path.{◌≡◌, refl, sym, ap, ◌∙◌}
use native.Mathlib.Nat.{zero-add, add-zero, mul-suc, mul-le-mul_left, eq-zero-or-pos, le_refl, le_trans}
use native.Mathlib.Numerals.{add-one}
use native.Mathlib.Omega.{arith}
use borrow.Author.Tests.{lt-ltb, le-ltb}
use lib.Dec.{ltb}
use lib.ListN.{length, length-append}
use Rattle.format.specs.Bytes.{chosen, count_if, within, to_le}
use Rattle.format.specs.Put.{Wrote}
use Rattle.format.specs.Slots.{picks_from}
use Rattle.format.specs.Write.{numbers, ends}
use Rattle.format.proofs.Laws.{chosen-hit, chosen-miss, count-within}
use Rattle.format.proofs.Measure.{length-to_le}
use Rattle.format.proofs.Numbers.{numbers-none, numbers-append}
use Rattle.format.proofs.PackedLaws.{numbers-one}
use Rattle.format.proofs.Put.{none, then, named, same_size}
use Rattle.format.proofs.SlotLaws.{chosen-picks, count-cat}
use Rattle.texts.specs.Texts.{ends_from, total_of}
use Rattle.texts.proofs.TextLaws.{total-none, total-cons, total-append, ends-append, ends-from}
use Rattle.runs.specs.Groups.{end_at, start_at, size_at, EndsLie, sizes_below, end_bytes}

-- ---- the rows of one run

-- the picks that k brings into [s, e) are those of one range
module _ (p : ℕ → Bool) (k s e n : ℕ) (h : s ≤ e) where
  pub group-picks : count_if (within k s e) (picks_from p n 0) ≡ length (picks_from p (min (e - k) n - min (s - k) n) (min (s - k) n))
  group-picks =
      let two = rw (chosen-picks p n) at (count-within p k s e h n) in
      let lo = ap length (chosen-picks p (min (s - k) n)) in
      let hi = ap length (chosen-picks p (min (e - k) n)) in
      let sum : min (s - k) n + (min (e - k) n - min (s - k) n) ≡ min (e - k) n = omega arith in
      let cat = rw (sum, zero-add) at (count-cat p (min (s - k) n) (min (e - k) n - min (s - k) n) 0) in
      omega arith

-- run ends one by one
module _ (w : ℕ) (d : List ℕ) (first : ℕ) where
  pub start_first : start_at w d first 0 ≡ 0
  unfolding start_at
  start_first = refl

  pub start-next : (j : ℕ) → start_at w d first (j + 1) ≡ end_at w d first j
  unfolding start_at
  start-next j = rw add-one

module _ {w : ℕ} {d : List ℕ} {first n : ℕ} (lie : EndsLie w d first n) where
  -- run end j lies in the slice
  pub end-inside : (j : ℕ) → j < n → first + w * j + w ≤ length d
  end-inside j l = omega (arith, lie.inside, mul-suc w j, mul-le-mul_left w l)

  -- lo and hi are where run j starts and ends among the len rows after k skipped ones: its rows are the picks between them
  module _ (k len j lo hi : ℕ) (l : j < n) (el : lo ≡ min (start_at w d first j - k) len) (eh : hi ≡ min (end_at w d first j - k) len) where
    pub size-picks : (p : ℕ → Bool) (x : ℕ) → x ≡ length (picks_from p (hi - lo) lo) → x ≡ size_at w d first k (picks_from p len 0) j
    unfolding size_at
    size-picks p x e = rw (group-picks p k (start_at w d first j) (end_at w d first j) len (lie.rising j l), ← el, ← eh) e

    pub range-order : lo ≤ hi
    range-order = omega (arith, lie.rising j l)

-- ---- the groups that are not empty

module _ (g : ℕ → ℕ) (n : ℕ) where
  sizes-hit : 0 < g n → sizes_below g (n + 1) ≡ sizes_below g n ++ (g n ∷ [])
  unfolding sizes_below
  sizes-hit h = rw (chosen-hit (λ j. ltb 0 (g j)) n (lt-ltb 0 (g n) h), map-append)

  pub sizes-miss : g n ≡ 0 → sizes_below g (n + 1) ≡ sizes_below g n
  unfolding sizes_below
  sizes-miss h = ap (map g) (chosen-miss (λ j. ltb 0 (g j)) n (le-ltb 0 (g n) (omega arith)))

  total-hit : 0 < g n → total_of (sizes_below g (n + 1)) ≡ total_of (sizes_below g n) + g n
  total-hit h = rw (sizes-hit h, total-append, total-cons, total-none, add-zero)

  ends-hit : (w : ℕ) → 0 < g n → end_bytes w g (n + 1) ≡ end_bytes w g n ++ to_le w (total_of (sizes_below g n) + g n)
  unfolding end_bytes ends_from
  ends-hit w h = rw (sizes-hit h, ends-from (sizes_below g n ++ _), ends-append, zero-add, numbers-append, numbers-one, ends-from)

  ends-miss : (w : ℕ) → g n ≡ 0 → end_bytes w g (n + 1) ≡ end_bytes w g n
  unfolding end_bytes
  ends-miss w h = ap (λ (l : List ℕ). numbers w (ends l)) (sizes-miss h)

-- more groups have no fewer bytes
module _ (w : ℕ) (g : ℕ → ℕ) where
  length-hit : (n : ℕ) → 0 < g n → length (end_bytes w g (n + 1)) ≡ length (end_bytes w g n) + w
  length-hit n h = rw (ends-hit g n w h, length-append, length-to_le)

  length-next : (n : ℕ) → length (end_bytes w g n) ≤ length (end_bytes w g (n + 1))
  length-next n =
      ⊎_elim (λ (e : g n ≡ 0). rw (ends-miss g n w e) (le_refl _))
      (λ (h : 0 < g n). omega (arith, length-hit n h))
      (eq-zero-or-pos (g n))

  length-mono : (n k : ℕ) → length (end_bytes w g n) ≤ length (end_bytes w g (n + k))
  length-mono n zero = rw add-zero (le_refl _)
  length-mono n (suc k) =
      let e : n + suc k ≡ n + k + 1 = omega arith in
      rw e (le_trans (length-mono n k) (length-next (n + k)))

-- ---- the loop over groups

-- the ends of the first j groups are written, and kept is their running count
pub record Grouped (w : ℕ) (g : ℕ → ℕ) (old : List ℕ) (at j kept : ℕ) (new : List ℕ) (here : ℕ) : Type 0 where
  pub count : kept ≡ total_of (sizes_below g j)
  pub wrote : Wrote old at (end_bytes w g j) new here

pub grouped-none : (w : ℕ) (g : ℕ → ℕ) (old : List ℕ) (at : ℕ) → Grouped w g old at 0 0 old at
unfolding sizes_below end_bytes chosen ends_from
grouped-none w g old at = record { count = sym total-none; wrote = none (ap (numbers w) (ends-from []) ∙ numbers-none w) refl }

module _ {w : ℕ} {g : ℕ → ℕ} {old : List ℕ} {at j kept : ℕ} {new : List ℕ} {here : ℕ} (so : Grouped w g old at j kept new here) where
  -- an empty group is passed over
  pub grouped-miss : (m : ℕ) → m ≡ g j → (0 < m → ⊥) → Grouped w g old at (j + 1) kept new here
  grouped-miss m e h =
      let z : g j ≡ 0 = omega arith in
      record { count = so.count ∙ ap total_of (sym (sizes-miss g j z)); wrote = named so.wrote (sym (ends-miss g j w z)) }

  module _ {m : ℕ} (e : m ≡ g j) (h : 0 < m) where
    full : 0 < g j
    full = omega arith

    -- the end of one that is not is written
    pub grouped-hit : {last : List ℕ} {next : ℕ} → Wrote new here (to_le w (kept + m)) last next → Grouped w g old at (j + 1) (kept + m) last next
    grouped-hit q = record {
      count = rw (e, so.count) (sym (total-hit g j full));
      wrote = named (then so.wrote q) (rw (e, so.count) (sym (ends-hit g j w full)));
    }

    pub grouped-room : (n : ℕ) → j < n → at + length (end_bytes w g n) ≤ length old → here + w ≤ length new
    grouped-room n l fit =
        let more = length-mono w g (j + 1) (n - (j + 1)) in
        let rest : j + 1 + (n - (j + 1)) ≡ n = omega arith in
        omega (arith, so.wrote.place, same_size so.wrote, length-hit w g j full, rw rest at more)
