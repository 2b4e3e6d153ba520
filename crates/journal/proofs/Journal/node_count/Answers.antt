-- `journal::Journal::node_count` meets its contract. Assumes nothing.
use Rattle.format.specs.Node.{node_count}
use Rattle.journal.proofs.Journal.node_count.Goals as goal

pub returns : goal.returns
unfolding node_count
returns c = c.get.ensures.value
