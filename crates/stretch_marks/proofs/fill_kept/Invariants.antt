-- What the loop of `fill_kept` keeps: the rows of the runs that are left are what is left to mark. Assumes nothing.
use Rattle.format.specs.Node.{rows}
use Rattle.format.specs.Slots.{up_to}
use Rattle.marks.proofs.Marking.{Marking}
use Rattle.stretches.specs.Stretches.{bytes_in, kept_in}
use Rattle.stretches.specs.Kept.{runs_left}
use Rattle.stretches.proofs.Ranges.{Among}
use Rattle.stretch_marks.proofs.RunMarks.{in_runs}
use Rattle.stretch_marks.proofs.fill_kept.Given as goal

abbrev pub invariant-loop-from : goal.invariant-loop-from
invariant-loop-from l =
    let left = runs_left l.from-iterator in
    let n = rows (bytes_in l.counted) l.node in
    Among n left × Marking (up_to (kept_in l.counted l.node) n) l.initial.region l.region (in_runs left)
