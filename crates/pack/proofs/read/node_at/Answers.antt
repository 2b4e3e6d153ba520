-- `pack::read::node_at` meets its contract: each field is what the callee read. Assumes nothing.
use Rattle.std.proofs.Common.{rules}
use Rattle.format.specs.Node.{field, first_at, kids, kind_number, last_field, param, rows, second_at, second_length, skip, validity_at}
use Rattle.pack.proofs.read.node_at.Goals as goal

pub returns : goal.returns
unfolding field kind_number param rows skip kids validity_at first_at second_at second_length last_field
returns c = search rules
