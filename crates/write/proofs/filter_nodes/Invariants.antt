-- What the loop of `filter_nodes` keeps: the first i nodes are written. Assumes nothing.
use Rattle.nesting.specs.Rows.{picks_in}
use Rattle.write.specs.Nodes.{NodesTo}
use Rattle.write.proofs.filter_nodes.Given as goal

abbrev pub invariant-loop-i : goal.invariant-loop-i
invariant-loop-i l = NodesTo l.regions.counted.journal.now.bytes.now (picks_in l.regions.counted.source) l.i l.initial.out l.out l.at l.fields
