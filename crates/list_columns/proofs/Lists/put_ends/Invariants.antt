-- What the loop of `put_ends` keeps: where the rows that are left end is still to be written. Assumes nothing.
use Rattle.append.specs.Cells.{Among}
use Rattle.texts.proofs.TextLaws.{Ending}
use Rattle.list_columns.specs.Lists.{Have, starts}
use Rattle.list_columns.proofs.Lists.put_ends.Given as goal

abbrev pub invariant-loop-row : goal.invariant-loop-row
invariant-loop-row g l =
    (goal.iterator-loop-row g).can_next l.row-iterator
    × (goal.iterator-loop-row g).is_finite l.row-iterator
    × Among (Have g.N.Number.WIDTH l.self) (g.R.Rows.rows l.row-iterator)
    × Ending g.N.Number.WIDTH (starts g.N.Number.WIDTH l.self) l.sum (g.R.Rows.rows l.fn.rows) l.initial.out l.next l.out l.here l.end (g.R.Rows.rows l.row-iterator)
