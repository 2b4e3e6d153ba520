-- What the loop of `Offsets::put_each` keeps: where the rows that are left end is still to be written. Assumes nothing.
use Rattle.append.specs.Cells.{Among}
use Rattle.texts.specs.Texts.{offset, Offsets}
use Rattle.texts.proofs.TextLaws.{Ending}
use Rattle.texts.proofs.Offsets.put_each.Given as goal

abbrev pub invariant-loop-row : goal.invariant-loop-row
invariant-loop-row g l =
    (goal.iterator-loop-row g).can_next l.row-iterator
    × (goal.iterator-loop-row g).is_finite l.row-iterator
    × Among (Offsets g.N.Number.WIDTH l.self.src.now l.self.first) (g.R.Rows.rows l.row-iterator)
    × Ending g.N.Number.WIDTH (offset g.N.Number.WIDTH l.self.src.now l.self.first) l.sum (g.R.Rows.rows l.fn.rows) l.initial.out l.next l.out l.here l.end (g.R.Rows.rows l.row-iterator)
