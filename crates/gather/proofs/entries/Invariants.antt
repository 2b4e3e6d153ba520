-- What the loop of `entries` keeps: the entries of the rows that are left are still to be written. Assumes nothing.
use Rattle.append.proofs.CellLaws.{Entering}
use Rattle.gather.proofs.entries.Given as goal

abbrev pub invariant-loop-row : goal.invariant-loop-row
invariant-loop-row g l =
    (goal.iterator-loop-row g).can_next l.row-iterator
    × (goal.iterator-loop-row g).is_finite l.row-iterator
    × Entering (g.W.Width.bytes l.width) l.src l.first (g.R.Rows.rows l.fn.rows) l.initial.out l.at l.out l.here (g.R.Rows.rows l.row-iterator)
