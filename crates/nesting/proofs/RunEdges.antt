-- The runs of a runs node that keeps the root's rows: which of them are kept, by ranges of the mask's slots. Assumes nothing.
use Prim.Native.Nat.{ℕ, suc, ◌+◌, ◌-◌, ◌*◌, ◌≤◌, ◌<◌, min}
use mathlib.Core.Bool.{Bool, true}
use mathlib.Core.List.{List, [], ◌∷◌}
use mathlib.Core.Path.{◌≡◌, sym, ap, ◌∙◌}
use mathlib.Core.Logic.{dite}
use native.Mathlib.Decide.{dec_le}
use native.Mathlib.Numerals.{add-one}
use native.Mathlib.Omega.{arith}
use lib.Dec.{ltb}
use lib.ListN.{length}
use native.Mathlib.Nat.{mul-le-mul_left, mul-suc}
use Rattle.format.specs.Bytes.{chosen}
use Rattle.format.specs.declared.Kind.TheVariants.{Runs}
use Rattle.format.specs.Node.{node_count, kind, param, rows, skip, first_at, run_start, run_end, parent}
use Rattle.format.specs.Verdict.{one_of}
use Rattle.format.specs.Kept.{group_size, kept_runs, kept_rows}
use Rattle.format.specs.Accepted.{RunEnds}
use Rattle.format.specs.Accepted as is
use Rattle.slots.specs.declared.Bits.{Bits}
use Rattle.slots.specs.Source.{slot_of}
use Rattle.scan.specs.Asked.{any_in}
use Rattle.nesting.specs.Rows.{between, hands_on, picks_of, edge, AtRuns, KeepsRoot}
use Rattle.format.proofs.Demand3.{chosen-agree}
use Rattle.nesting.proofs.Between.{empty, above, cut, told}
use Rattle.nesting.proofs.RunRows.{rows_from, rows_to, group}
use Rattle.nesting.proofs.Picks.{any-picks}
use Rattle.nesting.proofs.Tree.{kept-runs, handed-runs}
use Rattle.nesting.proofs.ByKind.{rows-small, skip-small}

-- both ends of a range may be cut at n
cut-both : (p : ℕ → Bool) (n lo hi : ℕ) → between (chosen p n) (min lo n) (min hi n) ≡ between (chosen p n) lo hi
cut-both p n lo hi =
    dite (dec_le n lo)
    (λ l. rw (empty (chosen p n) (min lo n) (min hi n) (omega arith), above p n lo hi l))
    (λ l. let a : min lo n ≡ lo = omega arith in
    dite (dec_le n hi)
    (λ h. let z : min hi n ≡ n = omega arith in rw (a, z) (sym (cut p n lo hi h)))
    (λ h. let z : min hi n ≡ hi = omega arith in rw (a, z)))

-- ---- edges

module _ (b : List ℕ) (i len : ℕ) where
  pub edge-first : 0 ≡ edge b i len 0
  unfolding edge run_start
  edge-first = omega arith

  pub edge-last : (j : ℕ) → edge b i len j ≤ len
  unfolding edge
  edge-last j = omega arith

  pub edge-next : (j : ℕ) → min (run_end b i j - skip b i) len ≡ edge b i len (j + 1)
  unfolding edge run_start
  edge-next j = rw (add-one j)

module _ {b : List ℕ} {i : ℕ} (a : AtRuns b i) where
  ends-are : RunEnds b i
  ends-are = a.sound.run_ends i a.inside a.is_runs

  pub child-inside : suc i < node_count b
  child-inside = a.sound.shape.next i a.inside (rw a.is_runs is.OneChild.runs)

  pub few : i + 1 < 64
  few = omega (arith, child-inside, a.sound.shape.few)

  pub skip-few : skip b i ≤ 1_048_576
  skip-few = skip-small a.sound i a.inside

  pub runs-small : rows b (suc i) ≤ 1_048_576
  runs-small = rows-small a.sound (suc i) child-inside

  -- run ends have 2, 4 or 8 bytes, and run j's lies in the pack
  pub runs_wide : one_of (2 ∷ 4 ∷ 8 ∷ []) (param b i) ≡ true
  runs_wide = ends-are.width

  pub run_lies : (j : ℕ) → j < rows b (suc i) → first_at b i + param b i * j + param b i ≤ length b
  run_lies j h = omega (arith, mul-le-mul_left (param b i) h, mul-suc (param b i) j, ends-are.lie, a.sound.shape.table)

  -- a run does not end before it starts
  pub edge-rises : (len j : ℕ) → j < rows b (suc i) → edge b i len j ≤ edge b i len (j + 1)
  unfolding edge run_start
  edge-rises len j h = rw (add-one j) (omega (arith, ends-are.rise j h))

pub start_first : (b : List ℕ) (i j : ℕ) → j ≡ 0 → 0 ≡ run_start b i j
unfolding run_start
start_first b i j e = rw e

-- ---- which runs are kept

-- some slot of run j is picked
abbrev pub run_picked : List ℕ → ℕ → List ℕ → Bits → ℕ → Bool
run_picked b i s bits j = any_in (slot_of s bits) (edge b i bits.len j) (edge b i bits.len (j + 1))

module _ (b : List ℕ) (i : ℕ) (s : List ℕ) (bits : Bits) where
  run-picked : (j : ℕ) → ltb 0 (group_size b i (picks_of s bits) j) ≡ run_picked b i s bits j
  unfolding edge
  run-picked j =
      group b i (picks_of s bits) j
      ∙ sym (cut-both (slot_of s bits) bits.len (rows_from b i j) (rows_to b i j))
      ∙ ap (between (picks_of s bits) (edge b i bits.len j)) (edge-next b i bits.len j)
      ∙ sym (any-picks s bits (edge b i bits.len j) (edge b i bits.len (j + 1)))

  -- the runs with a picked slot are those that the node hands on
  pub runs-handed : kind b i ≡ Runs → (j : ℕ) → j < rows b (suc i) → run_picked b i s bits j ≡ hands_on b i (picks_of s bits) j
  unfolding kept_runs
  runs-handed e j h = sym (handed-runs b i e (picks_of s bits) j ∙ told (λ k. ltb 0 (group_size b i (picks_of s bits) k)) (rows b (suc i)) j h ∙ run-picked j)

module _ {b : List ℕ} {i : ℕ} (a : AtRuns b i) (k : KeepsRoot b i) where
  above-child : parent b (suc i) ≡ i
  above-child = a.sound.shape.under i a.inside (rw a.is_runs is.OneChild.runs)

  child-kept : (root : List ℕ) → kept_rows b root (suc i) ≡ kept_runs b i root
  child-kept root =
      rw above-child at (kept-runs b root (suc i) (omega arith) (rw above-child a.is_runs))
      ∙ ap (kept_runs b i) (k.same root)

  module _ (s : List ℕ) (bits : Bits) where
    -- the child keeps the runs with a picked slot
    pub kept-picked : chosen (run_picked b i s bits) (rows b (suc i)) ≡ kept_rows b (picks_of s bits) (suc i)
    unfolding kept_runs
    kept-picked = sym (child-kept (picks_of s bits) ∙ chosen-agree _ _ (rows b (suc i)) (λ j h. run-picked b i s bits j))
