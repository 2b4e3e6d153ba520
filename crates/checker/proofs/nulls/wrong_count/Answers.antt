-- `checker::nulls::wrong_count` meets its contract. Assumes nothing.
use Rattle.checker.proofs.nulls.wrong_count.Goals as goal

pub returns : goal.returns
returns c = rw (c.null_count.ensures, c.node_at-carried.ensures)
