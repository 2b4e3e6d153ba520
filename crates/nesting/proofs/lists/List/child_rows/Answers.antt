-- `nesting::lists::List::child_rows` meets its contract. Assumes nothing.
use native.Mathlib.Omega.{arith}
use Rattle.nesting.proofs.ListAt.{child-in}
use Rattle.nesting.proofs.lists.List.child_rows.Goals as goal

pub rows-requires : goal.rows-requires
rows-requires c = omega (arith, child-in c.args.self.at)
