-- What a runs node, and a node that carries its children, hand on: ranges of runs are ranges of rows. Assumes nothing.
use Prim.Native.Nat.{ℕ, zero, suc, ◌+◌, ◌-◌, ◌≤◌, ◌<◌}
use mathlib.Core.Bool.{Bool, true, false, ◌&&◌, ◌||◌, or_self}
use mathlib.Core.List.{List, [], ◌∷◌}
use mathlib.Core.Path.{◌≡◌, refl, sym, ap, ap₂, ◌∙◌}
use mathlib.Core.Logic.{dite}
use native.Mathlib.Decide.{dec_le}
use native.Mathlib.Nat.{add-zero, zero-add, add-suc}
use native.Mathlib.Omega.{arith}
use borrow.Author.Tests.{le-ltb, lt-ltb, le-leb, lt-leb}
use lib.Dec.{leb, ltb}
use lib.ListN.{length}
use Rattle.format.specs.Bytes.{table, any_below, chosen, one, count_if, within}
use Rattle.format.specs.Node.{rows, skip, run_end, run_start}
use Rattle.format.specs.Kept.{in_run, group_size, kept_runs, carried}
use Rattle.nesting.specs.Rows.{between}
use Rattle.nesting.proofs.Between.{split, any-chosen}

leb-sub : (s k r : ℕ) → leb s (k + r) ≡ leb (s - k) r
leb-sub s k r =
    dite (dec_le s (k + r))
    (λ h. rw (le-leb s (k + r) h, le-leb (s - k) r (omega arith)))
    (λ h. rw (lt-leb s (k + r) (omega arith), lt-leb (s - k) r (omega arith)))

ltb-sub : (k r e : ℕ) → ltb (k + r) e ≡ ltb r (e - k)
ltb-sub k r e =
    dite (dec_le e (k + r))
    (λ h. rw (le-ltb (k + r) e h, le-ltb r (e - k) (omega arith)))
    (λ h. rw (lt-ltb (k + r) e (omega arith), lt-ltb r (e - k) (omega arith)))

one_more : (t : Bool) (n : ℕ) → ltb 0 (one t + n) ≡ (t || ltb 0 n)
one_more true n = lt-ltb 0 (1 + n) (omega arith)
one_more false n = rw (zero-add n)

pub start_of : (b : List ℕ) (i j : ℕ) → (j ≡ 0 → ⊥) → run_end b i (j - 1) ≡ run_start b i j
unfolding run_start
start_of b i j h = let e : suc (j - 1) ≡ j = omega arith in ap (run_start b i) e

module _ (b : List ℕ) (i : ℕ) where
  -- the rows of run j, counted after skip: from the first on, and up to
  abbrev pub rows_from : ℕ → ℕ
  rows_from j = run_start b i j - skip b i

  abbrev pub rows_to : ℕ → ℕ
  rows_to j = run_end b i j - skip b i

  in-run : (j r : ℕ) → in_run b i j r ≡ within 0 (rows_from j) (rows_to j) r
  unfolding in_run within
  in-run j r = rw (zero-add r) (ap₂ ◌&&◌ (leb-sub (run_start b i j) (skip b i) r) (ltb-sub (skip b i) r (run_end b i j)))

  -- a run is kept if some kept row lies in its rows
  pub group : (rs : List ℕ) (j : ℕ) → ltb 0 (group_size b i rs j) ≡ between rs (rows_from j) (rows_to j)
  unfolding group_size count_if between
  group [] j = refl
  group (r ∷ rs) j = one_more (in_run b i j r) (count_if (in_run b i j) rs) ∙ ap₂ ◌||◌ (in-run j r) (group rs j)

-- runs lie one after the other
module _ (b : List ℕ) (i : ℕ) (rising : (j : ℕ) → j < rows b (suc i) → run_start b i j ≤ run_end b i j) where
  next : (j : ℕ) → suc j < rows b (suc i) → run_end b i j ≤ run_end b i (suc j)
  unfolding run_start
  next j h = rising (suc j) h

  far : (lo k : ℕ) → lo + k < rows b (suc i) → run_start b i lo ≤ run_end b i (lo + k)
  far lo zero h = rw (add-zero lo) (rising lo (omega arith))
  far lo (suc k) h = rw (add-suc lo k) (omega (arith, far lo k (omega arith), next (lo + k) (omega arith)))

  some-run : (rs : List ℕ) (lo k : ℕ) → lo + k < rows b (suc i)
      → any_below (λ j. ltb 0 (group_size b i rs (lo + j))) (suc k) ≡ between rs (rows_from b i lo) (rows_to b i (lo + k))
  unfolding any_below run_start
  some-run rs lo zero h = rw (add-zero lo) (group b i rs lo)
  some-run rs lo (suc k) h =
      let l : run_start b i lo ≤ run_end b i (lo + k) = far lo k (omega arith) in
      let m : run_end b i (lo + k) ≤ run_end b i (suc (lo + k)) = next (lo + k) (omega arith) in
      rw (some-run rs lo k (omega arith), add-suc lo k, group b i rs (suc (lo + k)))
      (sym (split rs (rows_from b i lo) (rows_to b i (lo + k)) (rows_to b i (suc (lo + k))) (omega arith) (omega arith)))

  -- some run of [lo, hi) is kept if some kept row lies in their rows
  pub runs-kept : (rs : List ℕ) (lo hi : ℕ) → lo < hi → hi ≤ rows b (suc i)
      → between (kept_runs b i rs) lo hi ≡ between rs (rows_from b i lo) (rows_to b i (hi - 1))
  unfolding kept_runs
  runs-kept rs lo hi l h =
      let k : ℕ = hi - 1 - lo in
      let e : hi ≡ lo + suc k = omega arith in
      let d : lo + k ≡ hi - 1 = omega arith in
      ap (between (kept_runs b i rs) lo) e
      ∙ any-chosen (λ j. ltb 0 (group_size b i rs j)) (rows b (suc i)) lo (suc k) (omega arith)
      ∙ some-run rs lo k (omega arith)
      ∙ ap (λ (j : ℕ). between rs (rows_from b i lo) (rows_to b i j)) d

-- a carried child keeps every row or none
pub carried-chosen : (rs : List ℕ) (n : ℕ) → carried rs n ≡ chosen (λ k. ltb 0 (length rs)) n
unfolding carried chosen table
carried-chosen [] zero = refl
carried-chosen [] (suc n) = rw (← carried-chosen [] n)
carried-chosen (r ∷ rs) zero = refl
carried-chosen (r ∷ rs) (suc n) = rw (← carried-chosen (r ∷ rs) n, lt-ltb 0 (length (r ∷ rs)) (omega arith))

any-all : (t : Bool) (k : ℕ) → any_below (λ j. t) (suc k) ≡ t
unfolding any_below
any-all t zero = refl
any-all t (suc k) = rw (any-all t k) (or_self t)

pub carried-any : (rs : List ℕ) (n lo hi : ℕ) → lo < hi → hi ≤ n → between (carried rs n) lo hi ≡ ltb 0 (length rs)
carried-any rs n lo hi l h =
    let k : ℕ = hi - 1 - lo in
    let e : hi ≡ lo + suc k = omega arith in
    rw (carried-chosen rs n, e) (any-chosen (λ j. ltb 0 (length rs)) n lo (suc k) (omega arith) ∙ any-all (ltb 0 (length rs)) k)
