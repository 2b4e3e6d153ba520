-- A run's bit by the edges of its range of slots. Assumes nothing.
use Prim.Native.Nat.{ℕ, suc, ◌+◌, ◌≤◌, ◌<◌}
use mathlib.Core.Bool.{Bool}
use mathlib.Core.List.{List}
use mathlib.Core.Path.{◌≡◌, ◌∙◌}
use Rattle.format.specs.Node.{rows}
use Rattle.slots.specs.declared.Bits.{Bits}
use Rattle.slots.specs.Source.{slot_of}
use Rattle.scan.specs.Asked.{any_in}
use Rattle.nesting.specs.Rows.{hands_on, picks_of, edge, AtRuns}
use Rattle.nesting.proofs.RunEdges.{edge-rises, runs-handed}

-- run j is [lo, hi)
module _ {b : List ℕ} {i : ℕ} (a : AtRuns b i) (j : ℕ) (h : j < rows b (suc i)) {lo hi : ℕ} where
  pub range-order : (len : ℕ) → lo ≡ edge b i len j → hi ≡ edge b i len (j + 1) → lo ≤ hi
  range-order len el eh = rw (el, eh) (edge-rises a len j h)

  pub run-handed : (s : List ℕ) (bits : Bits) → lo ≡ edge b i bits.len j → hi ≡ edge b i bits.len (j + 1) → (t : Bool) → t ≡ any_in (slot_of s bits) lo hi → t ≡ hands_on b i (picks_of s bits) j
  run-handed s bits el eh t e = e ∙ rw (el, eh) (runs-handed b i s bits a.is_runs j h)
