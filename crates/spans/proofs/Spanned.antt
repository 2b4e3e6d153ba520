-- What rows span by their offsets: the rows of a run at once, and a word's lowest run off. Assumes nothing.
use Prim.Native.Nat.{ℕ, zero, suc, ◌+◌, ◌-◌, ◌*◌, ◌^◌, ◌≤◌, ◌<◌}
use mathlib.Core.Bool.{Bool, true, false}
use mathlib.Core.List.{List, [], ◌∷◌, ◌++◌}
use mathlib.Core.Path.{◌≡◌, sym, ap, ◌∙◌}
use native.Mathlib.Nat.{add-zero, zero-add, add_assoc, mul-suc, mul-le-mul_left, le_refl}
use native.Mathlib.Omega.{arith}
use lib.ListN.{length}
use Rattle.format.specs.Rows.{set_rows, Below}
use Rattle.format.specs.Slots.{pick, picks_from, count_up}
use Rattle.words.specs.Run.{LowestRun}
use Rattle.words.proofs.Carry.{run-below, rest_below}
use Rattle.spans.specs.Spans.{offset_from, spans, Rises, Rising}

pub spans-none : (o : ℕ → ℕ) (rs : List ℕ) → rs ≡ [] → spans o rs ≡ 0
unfolding spans
spans-none o rs e = ap (spans o) e

pub spans-append : (o : ℕ → ℕ) (xs ys : List ℕ) → spans o (xs ++ ys) ≡ spans o xs + spans o ys
unfolding spans
spans-append o [] ys = sym (zero-add (spans o ys))
spans-append o (x ∷ xs) ys = rw (spans-append o xs ys) (sym (add_assoc (o (suc x) - o x) (spans o xs) (spans o ys)))

module _ (o : ℕ → ℕ) (n : ℕ) (up : Rises o n) where
  -- those of a run span what lies between its first offset and its last
  pub spans-run : (k a : ℕ) → a + k ≤ n → (o a ≤ o (a + k)) × (o a + spans o (count_up k a) ≡ o (a + k))
  unfolding spans count_up
  spans-run zero a h = let e : a + 0 ≡ a = add-zero a in rw e (le_refl _, add-zero _)
  spans-run (suc k) a h =
      let one = up.next a (omega arith) in
      let (rise, ih) = spans-run k (suc a) (omega arith) in
      let e : suc a + k ≡ a + suc k = omega arith in
      let last : o (suc a + k) ≡ o (a + suc k) = ap o e in
      (omega arith, omega arith)

  -- and picked ones at most that
  pub picks-le : (p : ℕ → Bool) (k i : ℕ) → i + k ≤ n → o i + spans o (picks_from p k i) ≤ o (i + k)
  unfolding spans picks_from
  picks-le p zero i h = let e : i + 0 ≡ i = add-zero i in rw e (omega arith)
  picks-le p (suc k) i h =
      let e : suc i + k ≡ i + suc k = omega arith in
      let last : o (suc i + k) ≡ o (i + suc k) = ap o e in
      go (p i) (omega (arith, picks-le p k (suc i) (omega arith)))
    where
      go : (t : Bool) → o (suc i) + spans o (picks_from p k (suc i)) ≤ o (i + suc k) → o i + spans o (pick t i (picks_from p k (suc i))) ≤ o (i + suc k)
      go true l = omega (arith, up.next i (omega arith))
      go false l = omega (arith, up.next i (omega arith))

-- ---- the rows of a word, its lowest run off

module _ {base word from to rest : ℕ} (h : LowestRun base word from to rest) {len : ℕ} (below : Below len (set_rows base word)) where
  pub run_inside : to ≤ len
  run_inside = run-below h below

  -- by any offsets that do not fall
  module _ {o : ℕ → ℕ} (up : Rises o len) {x y : ℕ} (ex : x ≡ o to) (ey : y ≡ o from) where
    whole : (y ≤ x) × (y + spans o (count_up (to - from) from) ≡ x)
    whole =
        let d : from + (to - from) ≡ to = omega (arith, h.filled) in
        let all = spans-run o len up (to - from) from (omega (arith, d, run_inside)) in
        rw (ex, ey) (rw d at all)

    pub run-rises : y ≤ x
    run-rises = whole.0

    pub run-spans : spans o (set_rows base word) ≡ x - y + spans o (set_rows base rest)
    run-spans =
        ap (spans o) (h.rows)
        ∙ spans-append o (count_up (to - from) from) (set_rows base rest)
        ∙ ap (◌+ spans o (set_rows base rest)) (omega (arith, whole.0, whole.1))

-- by offsets that are read
module _ {w : ℕ} {b : List ℕ} {first base word from to rest : ℕ} (h : LowestRun base word from to rest) (r : Rising w b first (set_rows base word)) where
  inside : to ≤ r.len
  inside = run_inside h r.below

  pub run_small : (from < 2 ^ 64) × (to < 2 ^ 64)
  run_small = (omega (arith, inside, r.small, h.filled), omega (arith, inside, r.small))

  pub run_lies : first + w * to + w ≤ length b
  run_lies = omega (arith, r.inside, mul-suc w to, mul-suc w r.len, mul-le-mul_left w inside)

  pub start-lies : first + w * from + w ≤ length b
  start-lies =
      let up : w * from ≤ w * to = mul-le-mul_left w (omega (arith, h.filled)) in
      omega (arith, run_lies)

  pub rising-rest : Rising w b first (set_rows base rest)
  rising-rest = record { len = r.len; small = r.small; below = rest_below h r.below; inside = r.inside; next = r.next }

  module _ {x y : ℕ} (ex : x ≡ offset_from w b first to) (ey : y ≡ offset_from w b first from) where
    pub read-rises : y ≤ x
    read-rises = run-rises h r.below {o = offset_from w b first} (record { next = r.next }) ex ey

    pub read-spans : spans (offset_from w b first) (set_rows base word) ≡ x - y + spans (offset_from w b first) (set_rows base rest)
    read-spans = run-spans h r.below {o = offset_from w b first} (record { next = r.next }) ex ey
