-- Entries under a list, copied by its offsets: what that asks of the journal, and that they are those of the rows that the node keeps. Assumes nothing.
use Prim.Native.Nat.{ℕ, zero, suc, ◌+◌, ◌-◌, ◌≤◌, ◌<◌}
use mathlib.Core.Bool.{true, false, false≢true}
use mathlib.Core.List.{List}
use mathlib.Core.Logic.{⊎_elim}
use mathlib.Core.Path.{◌≡◌, sym, ap, ◌∙◌}
use native.Mathlib.Omega.{arith}
use Rattle.format.specs.Accepted.{Sound, Nests}
use Rattle.format.specs.Answer.{takes_scratch}
use Rattle.format.specs.declared.Kind.TheVariants.{Nested32}
use Rattle.format.specs.Kept.{kept_rows, kept_spans}
use Rattle.format.specs.Node.{node_count, kind_of, kind, of_kind, parent}
use Rattle.format.proofs.Accepted.{kind-number}
use Rattle.nodes.specs.Place.{Flat, flat_native, flat_fixed}
use Rattle.nesting.specs.Rows.{by_offsets}
use Rattle.nesting.proofs.ByKind.{of-nested64}
use Rattle.nesting.proofs.Direct.{list-number, entries-number, takes-not}
use Rattle.nesting.proofs.Tree.{one-of, kept-spans-of}
use Rattle.predicate.specs.declared.Selection.{Selection}
use Rattle.predicate.specs.Selection.{selected}
use Rattle.regions.specs.Region.{Selects}

-- ---- the two nodes

pub flat-of : (b : List ℕ) (i : ℕ) → by_offsets b i ≡ true → Flat (kind b i)
unfolding kind_of
flat-of b i d = ⊎_elim (λ e. rw (kind-number b i 2 e) flat_native) (λ e. rw (kind-number b i 3 e) flat_fixed) (entries-number b i d)

-- the list is the node before
pub node-after : (b : List ℕ) (i : ℕ) → by_offsets b i ≡ true → suc (i - 1) ≡ i
unfolding by_offsets
node-after b zero d = absurd (false≢true d)
node-after b (suc p) d = omega arith

-- which is no such node itself
pub list-not : (b : List ℕ) (i : ℕ) → by_offsets b (suc i) ≡ true → by_offsets b i ≡ false
unfolding takes_scratch of_kind
list-not b i d = takes-not b i (⊎_elim (λ e. rw e) (λ e. rw e) (list-number b i d))

-- the width of the list's offsets
pub width-64 : (b : List ℕ) (i : ℕ) → by_offsets b (suc i) ≡ true → (kind b i ≡ Nested32 → ⊥) → Nests 8 (kind b i)
unfolding kind_of
width-64 b i d f = ⊎_elim (λ e. absurd (f (kind-number b i 13 e))) (λ e. of-nested64 b i e) (list-number b i d)

-- ---- the rows are those that the list hands on

pub handed-on : {b root : List ℕ} {i : ℕ} {sel : Selection} → Selects b root i sel → Sound b → i < node_count b → (w : ℕ) → Nests w (kind b i) → kept_spans w b i (selected sel) ≡ kept_rows b root (suc i)
handed-on {b} {root} {i} t sound h w n =
    let up : parent b (suc i) ≡ i = sound.shape.under i h (one-of n) in
    sym (rw up at (kept-spans-of b root (suc i) (omega arith) w (rw up n)) ∙ ap (kept_spans w b i) (sym t.kept))
