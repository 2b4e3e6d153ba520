-- `nesting::lists::List::new` meets its contract. Assumes nothing.
use Rattle.std.proofs.Common.{rules}
use Rattle.nesting.proofs.lists.List.new.Goals as goal

pub invariant_of-result : goal.invariant_of-result
invariant_of-result c = record { at = search rules; begins = rw c.node-n.ensures; marked = c.marks.ensures }
