-- The kept cells of a runs node are the ends of its groups, and what an accepted journal gives of its run ends. Assumes nothing.
use Prim.Native.Nat.{ℕ, zero, suc, ◌≤◌}
use mathlib.Core.Bool.{true}
use mathlib.Core.List.{List, [], ◌∷◌}
use mathlib.Core.Path.{◌≡◌, refl, sym, ap, fun_ext}
use native.Mathlib.Omega.{arith}
use lib.ListN.{length}
use Rattle.format.specs.declared.Kind.TheVariants.{Runs}
use Rattle.format.specs.Accepted.{RunEnds}
use Rattle.format.specs.Kept.{in_run, group_size, kept_runs, cells}
use Rattle.format.specs.Node.{table_start, param, rows, skip, first_at, run_end, run_start, child}
use Rattle.format.specs.Verdict.{one_of}
use Rattle.format.specs.Write.{holds, first}
use Rattle.runs.specs.Groups.{end_at, start_at, size_at, EndsLie, sizes_below, end_bytes}

module _ (b : List ℕ) (i : ℕ) where
  end-node : (j : ℕ) → end_at (param b i) b (first_at b i) j ≡ run_end b i j
  unfolding end_at run_end
  end-node j = refl

  start-node : (j : ℕ) → start_at (param b i) b (first_at b i) j ≡ run_start b i j
  unfolding start_at run_start
  start-node zero = refl
  start-node (suc j) = end-node j

  size-node : (rs : List ℕ) (j : ℕ) → size_at (param b i) b (first_at b i) (skip b i) rs j ≡ group_size b i rs j
  unfolding size_at group_size in_run
  size-node rs j = rw (start-node j, end-node j)

  -- the first buffer of a runs node that keeps the rows rs
  pub run-cells : (rs : List ℕ)
      → first (cells Runs b i rs) ≡ holds (end_bytes (param b i) (size_at (param b i) b (first_at b i) (skip b i) rs) (rows b (child i)))
  unfolding first cells kept_runs end_bytes sizes_below
  run-cells rs = ap (λ (g : ℕ → ℕ). holds (end_bytes (param b i) g (rows b (child i)))) (sym (fun_ext (size-node rs)))

  -- an accepted runs node's ends lie in the journal and rise
  pub ends-lie : one_of (2 ∷ 4 ∷ 8 ∷ []) (param b i) ≡ true → RunEnds b i → table_start b ≤ length b → EndsLie (param b i) b (first_at b i) (rows b (child i))
  ends-lie w e h = record {
    width = w;
    inside = omega (arith, e.lie);
    rising = λ j l. rw (start-node j, end-node j) (omega (arith, e.rise j l));
  }
