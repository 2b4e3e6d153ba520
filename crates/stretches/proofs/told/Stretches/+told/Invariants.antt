-- They call each other with the node above: the measure is twice the node of which they tell, and one more where it is asked for first. Assumes nothing.
use Prim.Native.Nat.{◌+◌, ◌*◌, ◌-◌, ◌≤◌}
use mathlib.Core.Bool.{false}
use mathlib.Core.Path.{◌≡◌}
use Rattle.format.specs.Kept.{kept_rows}
use Rattle.nesting.specs.Rows.{between, picks_in}
use Rattle.nesting.proofs.RunRows.{rows_from}
use Rattle.stretches.specs.Stretches.{bytes_in}
use Rattle.stretches.proofs.told.Stretches.+told.Given as goal

abbrev pub decreases-told : goal.decreases-told
decreases-told l = 2 * l.node + 1

abbrev pub decreases-told_list : goal.decreases-told_list
decreases-told_list l = 2 * l.list.node + 2

abbrev pub decreases-told_run : goal.decreases-told_run
decreases-told_run l = 2 * l.runs.node + 2

-- no row of the run that was passed is kept
abbrev pub invariant-told_run-loop-x : goal.invariant-told_run-loop-x
invariant-told_run-loop-x l =
    let b = bytes_in l.fn.self.counted in
    let lo = rows_from b l.runs.node l.r in
    (l.self.counted ≡ l.fn.self.counted) × (lo ≤ l.x) × (between (kept_rows b (picks_in l.fn.self.counted.source) l.runs.node) lo l.x ≡ false)

abbrev pub decreases-told_run-loop-x : goal.decreases-told_run-loop-x
decreases-told_run-loop-x l = l.hi - l.x
