-- `nesting::edges::Runs::count` meets its contract. Assumes nothing.
use native.Mathlib.Omega.{arith}
use Rattle.nesting.proofs.RunEdges.{child-inside}
use Rattle.nesting.proofs.edges.Runs.count.Goals as goal

pub rows-requires : goal.rows-requires
rows-requires c = omega (arith, child-inside c.args.self.at)
