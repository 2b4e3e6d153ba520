-- What the loop of `chain::levels_above` keeps: the levels lead from node t's rows down to the node's. Assumes nothing.
use Rattle.list_counts.proofs.Climbing.{Climbing}
use Rattle.list_counts.proofs.chain.levels_above.Given as goal

abbrev pub invariant-loop-k : goal.invariant-loop-k
invariant-loop-k l = Climbing l.journal.bytes.now l.node l.offsets l.k l.t
