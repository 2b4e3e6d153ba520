-- `pack::read::trailer_of` meets its contract: each field is what the callee read. Assumes nothing.
use Rattle.std.proofs.Common.{rules}
use Rattle.format.specs.Node.{mark_of, node_count, root_rows, table_start}
use Rattle.pack.proofs.read.trailer_of.Goals as goal

pub returns : goal.returns
unfolding table_start node_count root_rows mark_of
returns c = search rules
