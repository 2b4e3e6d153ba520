-- `checker::rows::too_many_rows` meets its contract. Assumes nothing.
use Rattle.format.specs.Node.{places}
use Rattle.checker.proofs.rows.too_many_rows.Goals as goal

pub returns : goal.returns
unfolding places
returns c = rw c.node_at-n.ensures
