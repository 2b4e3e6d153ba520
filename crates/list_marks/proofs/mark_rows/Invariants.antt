-- What the loop of `mark_rows` keeps: the child rows of the rows that are left are what is left to mark. Assumes nothing.
use Rattle.format.specs.Node.{rows, first_number}
use Rattle.format.specs.Rows.{set_rows, Below}
use Rattle.marks.proofs.Marking.{Marking}
use Rattle.list_marks.specs.Spans.{in_spans}
use Rattle.list_marks.proofs.mark_rows.Given as goal

abbrev pub invariant-loop-from : goal.invariant-loop-from
invariant-loop-from l =
    let b = l.list.journal.now.bytes.now in
    let o = first_number l.list.width b l.list.node in
    let left = set_rows l.from-iterator.base l.from-iterator.rest in
    Below (rows b l.list.node) left × Marking (in_spans o (set_rows l.base l.word)) l.initial.region l.region (in_spans o left)
