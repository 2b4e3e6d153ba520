-- `prepare::mask_bits` meets its contract: the fields of node 0 that a source is read by. Assumes nothing.
use Rattle.format.specs.Node.{has_no_bitmap}
use Rattle.prepare.proofs.mask_bits.Goals as goal

pub returns : goal.returns
unfolding has_no_bitmap
returns c = rw (c.bitmap.ensures, c.node_at-n.ensures)
