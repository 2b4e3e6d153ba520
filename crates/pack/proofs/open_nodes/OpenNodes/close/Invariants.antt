-- What the loop of `close` keeps, and its measure. Assumes nothing.
use Rattle.std.proofs.Common.{◌≡◌, ◌≤◌}
use Rattle.format.specs.Node.{closed}
use Rattle.pack.specs.Tree.{ancestors_in}
use Rattle.pack.proofs.open_nodes.OpenNodes.close.Given as goal

abbrev pub invariant-loop-self : goal.invariant-loop-self
invariant-loop-self l = (l.self-inside.depth ≤ 64) × (closed (ancestors_in l.self-inside.depth l.self-inside.nodes) ≡ closed (ancestors_in l.initial.self-inside.depth l.initial.self-inside.nodes))

abbrev pub decreases-loop-self : goal.decreases-loop-self
decreases-loop-self l = l.self-inside.depth
