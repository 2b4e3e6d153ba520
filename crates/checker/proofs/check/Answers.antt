-- `checker::check` meets its contract: where 3 does not come, the nodes are few and their table ends at the trailer. Assumes nothing.
use Rattle.std.proofs.Common.{◌∙◌, sym}
use Rattle.format.proofs.Accepted.{few-nodes, table-place}
use Rattle.checker.proofs.check.Goals as goal

pub check_nodes-requires : goal.check_nodes-requires
check_nodes-requires c = let e = sym c.wrong_table.ensures ∙ c.if-wrong_table.false in (few-nodes _ e, table-place _ e)
