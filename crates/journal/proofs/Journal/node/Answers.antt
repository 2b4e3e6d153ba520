-- `journal::Journal::node` meets its contract: each field is the number at its place. Assumes nothing.
use Rattle.std.proofs.Common.{rules, sym}
use Rattle.format.specs.Node.{field, first_at, kids, kind_number, last_field, param, rows, second_at, second_length, skip, validity_at}
use Rattle.journal.proofs.Journal.node.Goals as goal

pub returns : goal.returns
unfolding field kind_number param rows skip kids validity_at first_at second_at second_length last_field
returns c = rw (sym c.args.self.now.starts) (search rules)
