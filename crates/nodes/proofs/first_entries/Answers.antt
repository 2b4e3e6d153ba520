-- `nodes::first_entries` meets its contract: the entries from row 0 on. Assumes nothing.
use Rattle.nodes.proofs.BufferLaws.{b, i, rs, first-copies, width-copies, narrow, entries-lie, place_is}
use Rattle.nodes.proofs.first_entries.Goals as goal

pub row_zero-requires : goal.row_zero-requires
row_zero-requires c = width-copies c.requires.copies (narrow c.args.picked)

pub put_entries-requires : goal.put_entries-requires
put_entries-requires c =
    let p = c.args.picked in
    let e = place_is (b p) (i p) c.node-node.ensures c.args.width _ c.row_zero.ensures in
    record { entries = rw e (entries-lie p c.requires.copies); room = rw (e, ← first-copies (b p) (i p) (rs p) c.requires.copies) c.requires.room }

pub returns : goal.returns
returns c =
    let p = c.args.picked in
    let e = place_is (b p) (i p) c.node-node.ensures c.args.width _ c.row_zero.ensures in
    rw (first-copies (b p) (i p) (rs p) c.requires.copies, ← e) c.put_entries.ensures
