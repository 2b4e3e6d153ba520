-- `nodes::second_sizes` meets its contract: the sizes from row 0 on. Assumes nothing.
use Rattle.nodes.proofs.BufferLaws.{b, i, rs, second-sizes-are, width-sizes, sizes-lie, size-place-is}
use Rattle.nodes.proofs.second_sizes.Goals as goal

pub row_zero-requires : goal.row_zero-requires
row_zero-requires c = width-sizes c.requires.sizes

pub put_entries-requires : goal.put_entries-requires
put_entries-requires c =
    let p = c.args.picked in
    let e = size-place-is (b p) (i p) c.node-node.ensures c.args.width _ c.row_zero.ensures in
    record { entries = rw e (sizes-lie p c.requires.sizes); room = rw (e, ← second-sizes-are (b p) (i p) (rs p) c.requires.sizes) c.requires.room }

pub returns : goal.returns
returns c =
    let p = c.args.picked in
    let e = size-place-is (b p) (i p) c.node-node.ensures c.args.width _ c.row_zero.ensures in
    rw (second-sizes-are (b p) (i p) (rs p) c.requires.sizes, ← e) c.put_entries.ensures
