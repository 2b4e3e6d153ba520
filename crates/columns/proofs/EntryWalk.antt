-- A column of entries block by block: what the writer of each form of block asks. Assumes nothing.
use Prim.Native.Nat.{ℕ, ◌+◌, ◌*◌, ◌-◌, ◌≤◌}
use mathlib.Core.List.{List, []}
use mathlib.Core.Path.{refl}
use native.Mathlib.Nat.{mul-le-mul_left}
use native.Mathlib.Omega.{arith}
use lib.ListN.{length}
use Rattle.std.specs.Prelude.{Some}
use Rattle.format.specs.Slots.{count_up}
use Rattle.predicate.specs.declared.Selection.{Selection}
use Rattle.predicate.specs.declared.Block.{Block}
use Rattle.predicate.specs.declared.Block.TheVariants.{Run}
use Rattle.predicate.specs.declared.Blocks.{Blocks}
use Rattle.predicate.specs.Selection.{selected, reach}
use Rattle.predicate.specs.Blocks.{block_rows, GivesBlock}
use Rattle.append.specs.Cells.{entries_of, Among, Entries}
use Rattle.append.proofs.CellLaws.{entries_none, entries-append}
use Rattle.columns.proofs.Walk.{Cuts, WalkedBy, Walked, WalkedOn, walk-room, among, among-on}

pub entries-cut : (w : ℕ) (b : List ℕ) (first : ℕ) → Cuts (entries_of w b first)
entries-cut w b first = record { none = entries_none w b first [] refl; parts = entries-append w b first }

module _ {Step : Blocks → Type 0} {w : ℕ} {b : List ℕ} {first : ℕ} {sel : Selection} {old : List ℕ} {at : ℕ} {new : List ℕ} {here : ℕ} {s : Blocks}
    (k : WalkedBy Step (entries_of w b first) sel old at new here s) (h : Entries w b first (reach sel)) (fit : at + length (entries_of w b first (selected sel)) ≤ length old) {t : Blocks} where
  pub run-needs : {a e : ℕ} → GivesBlock s (Some (Run a e)) t
      → (a ≤ e) × (first + w * e ≤ length b) × (here + length (entries_of w b first (count_up (e - a) a)) ≤ length new)
  run-needs {a} {e} g =
      let high : e ≤ reach sel = rw (← k.same) g.gives.0.1 in
      (g.gives.0.0, omega (arith, mul-le-mul_left w high, h.inside), walk-room k (entries-cut w b first) g fit)

module _ {w : ℕ} {b : List ℕ} {first : ℕ} {sel : Selection} {old : List ℕ} {at : ℕ} {new : List ℕ} {here : ℕ} {s : Blocks}
    (k : Walked (entries_of w b first) sel old at new here s) (h : Entries w b first (reach sel)) (fit : at + length (entries_of w b first (selected sel)) ≤ length old) {t : Blocks} where
  pub block-needs : {block : Block} → GivesBlock s (Some block) t
      → Among (Entries w b first) (block_rows block) × (here + length (entries_of w b first (block_rows block)) ≤ length new)
  block-needs g = (among k.same k.step g h, walk-room k (entries-cut w b first) g fit)

module _ {w : ℕ} {b : List ℕ} {first : ℕ} {sel : Selection} {old : List ℕ} {at : ℕ} {new : List ℕ} {here : ℕ} {s : Blocks}
    (k : WalkedOn (entries_of w b first) sel old at new here s) (h : Entries w b first (reach sel)) (fit : at + length (entries_of w b first (selected sel)) ≤ length old) {t : Blocks} where
  pub block-needs-on : {block : Block} → GivesBlock s (Some block) t
      → Among (Entries w b first) (block_rows block) × (here + length (entries_of w b first (block_rows block)) ≤ length new)
  block-needs-on g = (among-on k.same k.step g h, walk-room k (entries-cut w b first) g fit)
