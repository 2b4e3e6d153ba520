-- `pack::read::table_start` meets its contract. Assumes nothing.
use Rattle.std.proofs.Common.{rules}
use Rattle.format.specs.Node.{table_start}
use Rattle.pack.proofs.read.table_start.Goals as goal

pub returns : goal.returns
unfolding table_start
returns c = search rules
