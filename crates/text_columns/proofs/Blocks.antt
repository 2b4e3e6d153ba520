-- A selection block by block: what is known of the next one, and of all rows. Assumes nothing.
use Prim.Native.Nat.{ℕ}
use mathlib.Core.Path.{◌≡◌, refl, sym, ◌∙◌}
use Rattle.predicate.specs.declared.Selection.{Selection}
use Rattle.predicate.specs.declared.Blocks.{Blocks}
use Rattle.predicate.specs.Selection.{selected, reach}
use Rattle.predicate.specs.Blocks.{kept_by, Begun}
use Rattle.format.specs.Slots.{picks_from}
use Rattle.predicate.proofs.Picks.{picks_start}
use Rattle.predicate.proofs.Steps.{step-start, rows-start, left-below}
use Rattle.append.specs.Cells.{Among}

-- what holds of so many rows as a selection reaches holds among its rows
pub among-all : (sel : Selection) {P : ℕ → Type 0} → P (reach sel) → Among P (selected sel)
among-all sel {P} h =
    let s : Blocks = record { sel = sel; place = 0; index = 0 } in
    let begun : Begun sel s = (refl, refl, refl) in
    record { len = reach sel; below = rw (rows-start begun) at (left-below s (step-start begun)); holds = h }

-- they are those that it keeps below its reach
pub selected-kept : (sel : Selection) → selected sel ≡ picks_from (kept_by sel) (reach sel) 0
selected-kept sel =
    let s : Blocks = record { sel = sel; place = 0; index = 0 } in
    sym (rows-start {sel = sel} {r = s} (refl, refl, refl)) ∙ picks_start (kept_by sel) (reach sel)
