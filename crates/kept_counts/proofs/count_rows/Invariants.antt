-- What the loop of `count_rows` keeps: the rows counted, and those of the runs that are left, are the kept rows. Assumes nothing.
use Rattle.std.proofs.Common.{◌≡◌, ◌+◌, length}
use Rattle.format.specs.Node.{rows}
use Rattle.format.specs.Slots.{covered}
use Rattle.format.specs.Kept.{kept_rows}
use Rattle.nesting.specs.Rows.{picks_in}
use Rattle.stretches.specs.Stretches.{bytes_in}
use Rattle.stretches.specs.Kept.{runs_left}
use Rattle.stretches.proofs.Ranges.{Among}
use Rattle.kept_counts.proofs.count_rows.Given as goal

abbrev pub invariant-loop-from : goal.invariant-loop-from
invariant-loop-from l =
    let b = bytes_in l.counted in
    let left = runs_left l.from-iterator in
    Among (rows b l.node) left × (l.n + length (covered left) ≡ length (kept_rows b (picks_in l.counted.source) l.node))
