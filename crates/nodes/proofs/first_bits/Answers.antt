-- `nodes::first_bits` meets its contract: the bits from row 0 on. Assumes nothing.
use Rattle.nodes.proofs.BufferLaws.{bits_small, first-bits-are}
use Rattle.nodes.proofs.first_bits.Goals as goal

pub put_bits-requires : goal.put_bits-requires
put_bits-requires c = record { sourced = c.args.picked.sourced; len_bound = bits_small c.args.picked c.node-node.ensures; room = rw (← first-bits-are c.args.picked c.node-node.ensures c.requires.kind_value) c.requires.room }

pub returns : goal.returns
returns c = rw (first-bits-are c.args.picked c.node-node.ensures c.requires.kind_value) c.put_bits.ensures
