-- A runs node or a list of the journal at hand: what is asked and told of its child. Assumes nothing.
use Prim.Native.Nat.{ℕ, suc, ◌+◌, ◌-◌, ◌≤◌, ◌<◌, min}
use mathlib.Core.Bool.{Bool, true, false}
use mathlib.Core.Path.{◌≡◌, refl, sym, ◌∙◌}
use native.Mathlib.Numerals.{add-one}
use native.Mathlib.Omega.{arith}
use Rattle.format.specs.Node.{node_count, rows, skip, valid, first_number, run_start, parent}
use Rattle.format.specs.Slots.{Sought}
use Rattle.format.specs.Kept.{kept_rows}
use Rattle.nesting.specs.declared.Counted.{Counted}
use Rattle.nesting.specs.declared.edges.Runs.{Runs}
use Rattle.nesting.specs.declared.lists.List.{List}
use Rattle.nesting.specs.Rows.{between, edge, picks_in, AtRuns, AtList}
use Rattle.nesting.proofs.ListAt.{child-in}
use Rattle.nesting.proofs.RunEdges.{child-inside, edge-next}
use Rattle.nesting.proofs.RunRows.{rows_from, rows_to}
use Rattle.stretches.specs.Stretches.{bytes_in, AlikeRows, Ended, InRow, InNone}
use Rattle.stretches.proofs.Telling.{run-hit, run-miss, gap-told, valid-told, dropped-told, runs-next, list-next}

module _ (counted : Counted) (runs : Runs) (here : runs.journal.now.bytes.now ≡ bytes_in counted) where
  run-at : AtRuns (bytes_in counted) runs.node
  run-at = rw here at runs.at

  pub run-inside : runs.node < node_count (bytes_in counted)
  run-inside = run-at.inside

  pub run-kid : runs.node + 1 < node_count (bytes_in counted)
  run-kid = omega (arith, child-inside run-at)

  -- it is the node after its parent
  pub run-next : {node p : ℕ} → node < node_count (bytes_in counted) → 0 < node → p ≡ parent (bytes_in counted) node → runs.node ≡ p → node ≡ suc runs.node
  run-next h some up e = runs-next counted.ready.sound counted.ready.rooted h some (e ∙ up) run-at

  module _ (r : ℕ) where
    -- where its rows start and end, as the numbers are read
    pub run-lo : {x k y : ℕ} → x ≡ run_start runs.journal.now.bytes.now runs.node r → k ≡ skip runs.journal.now.bytes.now runs.node → y ≡ x - k → y ≡ rows_from (bytes_in counted) runs.node r
    run-lo e f g = g ∙ rw (e, f, here)

    pub run-hi : {n hi : ℕ} → n ≡ rows runs.journal.now.bytes.now runs.node → hi ≡ edge runs.journal.now.bytes.now runs.node n (r + 1)
        → hi ≡ min (rows_to (bytes_in counted) runs.node r) (rows (bytes_in counted) runs.node)
    run-hi e f = f ∙ rw (e, here) (sym (edge-next (bytes_in counted) runs.node (rows (bytes_in counted) runs.node) r))

  module _ {r : ℕ} where
    module _ (l : r < rows (bytes_in counted) (suc runs.node)) {hi : ℕ} (eh : hi ≡ min (rows_to (bytes_in counted) runs.node r) (rows (bytes_in counted) runs.node)) {x : ℕ} (f : rows_from (bytes_in counted) runs.node r ≤ x) where
      pub hit : {y e : ℕ} → x < hi → AlikeRows counted runs.node x true y → Ended runs.journal.now.bytes.now runs.node r y e → AlikeRows counted (runs.node + 1) r true e
      hit g k n = rw add-one (run-hit counted.ready.rooted run-at l refl eh f g k (rw here at n))

      pub miss : {e : ℕ} → hi ≤ x → between (kept_rows (bytes_in counted) (picks_in counted.source) runs.node) (rows_from (bytes_in counted) runs.node r) x ≡ false
          → Ended runs.journal.now.bytes.now runs.node r x e → AlikeRows counted (runs.node + 1) r false e
      miss g k n = rw add-one (run-miss counted.ready.rooted run-at l refl eh f k g (rw here at n))

module _ (counted : Counted) (list : List) (here : list.journal.now.bytes.now ≡ bytes_in counted) where
  list-at : AtList (bytes_in counted) list.width list.node
  list-at = rw here at list.at

  pub list-inside : list.node < node_count (bytes_in counted)
  list-inside = list-at.inside

  pub list-kid : list.node + 1 < node_count (bytes_in counted)
  list-kid = omega (arith, child-in list-at)

  pub list-after : {node p : ℕ} → node < node_count (bytes_in counted) → 0 < node → p ≡ parent (bytes_in counted) node → list.node ≡ p → node ≡ suc list.node
  list-after h some up e = list-next counted.ready.sound counted.ready.rooted h some (e ∙ up) list-at

  module _ {x : ℕ} where
    pub gap : {e : ℕ} → InNone list.width list.journal.now.bytes.now list.node x e → AlikeRows counted (list.node + 1) x false e
    gap n = rw add-one (gap-told counted.ready.rooted list-at (rw here at n))

    module _ {q v o : ℕ} (at : InRow list.width list.journal.now.bytes.now list.node x q) {t : Bool} {e : ℕ} (k : AlikeRows counted list.node q t e) (z : o ≡ first_number list.width list.journal.now.bytes.now list.node v) where
      pub in-kept : t ≡ true → Sought (valid list.journal.now.bytes.now list.node) q e false v → AlikeRows counted (list.node + 1) x t o
      in-kept f s = rw (add-one, f) (valid-told counted.ready.rooted list-at (rw here at at) (rw f at k) (rw here at s) (rw here at z))

      pub in-dropped : t ≡ false → v ≡ e → AlikeRows counted (list.node + 1) x t o
      in-dropped f g = rw (add-one, f) (dropped-told counted.ready.rooted list-at (rw here at at) (rw f at k) (rw (here, g) at z))
