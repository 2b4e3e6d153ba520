-- What the loop of `bytes_by_runs` keeps: the bytes counted, and those of the runs that are left, are those of the kept rows. Assumes nothing.
use Rattle.std.proofs.Common.{◌≡◌, ◌+◌}
use Rattle.format.specs.Node.{rows}
use Rattle.format.specs.Slots.{covered}
use Rattle.format.specs.Kept.{kept_rows}
use Rattle.nesting.specs.Rows.{picks_in}
use Rattle.spans.specs.Spans.{offset_from, spans}
use Rattle.stretches.specs.Stretches.{bytes_in}
use Rattle.stretches.specs.Kept.{runs_left}
use Rattle.stretches.proofs.Ranges.{Among}
use Rattle.kept_data.proofs.data.bytes_by_runs.Given as goal

abbrev pub invariant-loop-from : goal.invariant-loop-from
invariant-loop-from l =
    let b = bytes_in l.counted in
    let left = runs_left l.from-iterator in
    let o = offset_from l.offsets.width b l.offsets.first in
    Among (rows b l.node) left × (l.n + spans o (covered left) ≡ spans o (kept_rows b (picks_in l.counted.source) l.node))
