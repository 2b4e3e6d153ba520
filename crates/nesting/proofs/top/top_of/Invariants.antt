-- What the loop of `top::top_of` keeps, and its measure. Assumes nothing.
use Rattle.nesting.specs.Rows.{Level}
use Rattle.nesting.proofs.top.top_of.Given as goal

abbrev pub invariant-loop-i : goal.invariant-loop-i
invariant-loop-i l = Level l.journal.bytes.now l.node l.i

abbrev pub decreases-loop-i : goal.decreases-loop-i
decreases-loop-i l = l.i
