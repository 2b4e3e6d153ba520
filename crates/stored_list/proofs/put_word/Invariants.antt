-- What the loop of `put_word` keeps: what is left to store are the rows that are left. Assumes nothing.
use Rattle.std.proofs.Common.{◌^◌}
use Rattle.format.specs.Rows.{set_rows, Below}
use Rattle.format.proofs.Put.{Left}
use Rattle.stored_list.proofs.put_word.Given as goal

abbrev pub invariant-loop-row : goal.invariant-loop-row
invariant-loop-row l =
    let i = l.row-iterator in
    Below (2 ^ 32) (set_rows i.base i.rest) × Left l.initial.list l.at (set_rows l.base l.word) l.list l.here (set_rows i.base i.rest)
