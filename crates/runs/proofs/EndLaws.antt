-- How many rows of a selection each run has, by a count over a range of them. Assumes nothing.
use Prim.Native.Nat.{ℕ, zero, suc, ◌-◌, ◌≤◌, ◌<◌, min}
use mathlib.Core.List.{List, []}
use mathlib.Core.Path.{◌≡◌, refl, sym, ap, ◌∙◌}
use native.Mathlib.Numerals.{add-one}
use native.Mathlib.Omega.{arith}
use lib.ListN.{length}
use Rattle.format.specs.Bytes.{chosen, count_if}
use Rattle.format.specs.Slots.{picks_from}
use Rattle.format.specs.Write.{numbers, ends}
use Rattle.format.proofs.Numbers.{numbers-none}
use Rattle.format.proofs.SlotLaws.{count-le}
use Rattle.predicate.specs.declared.Blocks.{Blocks}
use Rattle.predicate.specs.declared.Selection.{Selection}
use Rattle.predicate.specs.Blocks.{kept_by}
use Rattle.predicate.specs.Selection.{reach, selected}
use Rattle.predicate.proofs.Picks.{picks_start}
use Rattle.predicate.proofs.Steps.{rows-start}
use Rattle.runs.specs.declared.run_ends.RunEnds.{RunEnds}
use Rattle.texts.specs.Texts.{ends_from}
use Rattle.texts.proofs.TextLaws.{ends-from}
use Rattle.runs.specs.Groups.{end_at, start_at, size_at, sizes_below, end_bytes}
use Rattle.runs.specs.Ends.{sizes, kept_ends}
use Rattle.runs.proofs.GroupLaws.{range-order, size-picks, sizes-miss}

-- a selection's rows are those that it keeps below its reach
pub selected-kept : (sel : Selection) → selected sel ≡ picks_from (kept_by sel) (reach sel) 0
selected-kept sel =
    let begin : Blocks = record { sel = sel; place = 0; index = 0 } in
    sym (rows-start {sel = sel} {r = begin} (refl, refl, refl)) ∙ picks_start (kept_by sel) (reach sel)

-- run j starts and ends at lo and hi among the rows below the selection's reach, and x of them are kept in between
module _ (runs : RunEnds) (sel : Selection) (j lo hi len : ℕ) (l : j < runs.count) (all : len ≡ reach sel)
    (el : lo ≡ min (start_at runs.width runs.bytes.now runs.first j - runs.skip) len) (eh : hi ≡ min (end_at runs.width runs.bytes.now runs.first j - runs.skip) len) where
  pub run-order : (lo ≤ hi) × (hi ≤ len)
  run-order = (range-order runs.lie runs.skip len j lo hi l el eh, omega arith)

  pub run-size : (x : ℕ) → x ≡ length (picks_from (kept_by sel) (hi - lo) lo) → x ≡ sizes runs (selected sel) j
  run-size x e = rw (selected-kept sel, ← all) (size-picks runs.lie runs.skip len j lo hi l el eh (kept_by sel) x e)

  pub run-few : (x : ℕ) → x ≡ length (picks_from (kept_by sel) (hi - lo) lo) → x ≤ hi - lo
  run-few x e = omega (arith, count-le (kept_by sel) (hi - lo) lo)

-- where no row is kept no run has an end
no-sizes : (g : ℕ → ℕ) → ((j : ℕ) → g j ≡ 0) → (n : ℕ) → sizes_below g n ≡ []
unfolding sizes_below chosen
no-sizes g h zero = refl
no-sizes g h (suc n) = rw add-one at (sizes-miss g n (h n)) ∙ no-sizes g h n

pub no-ends : (runs : RunEnds) → kept_ends runs [] ≡ []
unfolding end_bytes size_at count_if ends_from
no-ends runs = ap (λ (l : List ℕ). numbers runs.width (ends l)) (no-sizes (sizes runs []) (λ j. refl) runs.count) ∙ ap (numbers runs.width) (ends-from []) ∙ numbers-none runs.width
