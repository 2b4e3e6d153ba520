-- What the loop of `count_listed` keeps: the child rows counted, and those of the runs that are left, are those of the kept rows. Assumes nothing.
use Rattle.std.proofs.Common.{◌≡◌, ◌+◌}
use Rattle.format.specs.Node.{rows, first_number}
use Rattle.format.specs.Slots.{covered}
use Rattle.format.specs.Kept.{kept_rows}
use Rattle.nesting.specs.Rows.{picks_in}
use Rattle.spans.specs.Spans.{spans}
use Rattle.stretches.specs.Stretches.{bytes_in}
use Rattle.stretches.specs.Kept.{runs_left}
use Rattle.stretches.proofs.Ranges.{Among}
use Rattle.kept_counts.proofs.count_listed.Given as goal

abbrev pub invariant-loop-from : goal.invariant-loop-from
invariant-loop-from l =
    let b = bytes_in l.counted in
    let left = runs_left l.from-iterator in
    let starts = first_number l.list.width b l.list.node in
    Among (rows b l.list.node) left × (l.n + spans starts (covered left) ≡ spans starts (kept_rows b (picks_in l.counted.source) l.list.node))
