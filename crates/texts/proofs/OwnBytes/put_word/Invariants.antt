-- What the loop of `put_word` keeps: the own bytes of the rows that are left are still to be written. Assumes nothing.
use Rattle.format.specs.Rows.{set_rows}
use Rattle.append.proofs.CellLaws.{RowsLeft}
use Rattle.texts.specs.Own.{Have, own_of}
use Rattle.texts.proofs.OwnBytes.put_word.Given as goal

abbrev pub invariant-loop-a : goal.invariant-loop-a
invariant-loop-a l =
    (goal.iterator-loop-a).can_next l.a-iterator
    × (goal.iterator-loop-a).is_finite l.a-iterator
    × RowsLeft (Have l.self) (own_of l.self) (set_rows l.fn.base l.fn.word) l.initial.out l.at l.out l.here (set_rows l.a-iterator.base l.a-iterator.rest)
