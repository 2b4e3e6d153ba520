-- What the loop of `put_list` keeps: the own bytes of the rows that are left are still to be written. Assumes nothing.
use Rattle.append.proofs.CellLaws.{RowsLeft}
use Rattle.texts.specs.Own.{Have, own_of}
use Rattle.texts.proofs.OwnBytes.put_list.Given as goal

abbrev pub invariant-loop-row : goal.invariant-loop-row
invariant-loop-row l = RowsLeft (Have l.self) (own_of l.self) l.fn.rows l.initial.out l.at l.out l.here l.row-iterator.rest.now
