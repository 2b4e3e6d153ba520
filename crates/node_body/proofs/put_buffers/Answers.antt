-- `node_body::put_buffers` meets its contract: three buffers, one after the other. Assumes nothing.
use Rattle.nodes.proofs.BufferLaws.{b, i, rs}
use Rattle.node_body.proofs.AddLaws.{puts-order, bitmap-room, first-room, second-room, added}
use Rattle.node_body.proofs.put_buffers.Goals as goal

pub filter_nulls-v-requires : goal.filter_nulls-v-requires
filter_nulls-v-requires c = let p = c.args.picked in record { null_value = c.requires.null_value; room = bitmap-room (b p) (i p) (rs p) c.args.at c.args.out.now c.requires.room }

pub filter_first-f-requires : goal.filter_first-f-requires
filter_first-f-requires c = let p = c.args.picked in first-room (b p) (i p) (rs p) c.args.at c.args.out.now c.requires.room c.filter_nulls-v.ensures.0

pub filter_second-d-requires : goal.filter_second-d-requires
filter_second-d-requires c = let p = c.args.picked in second-room (b p) (i p) (rs p) c.args.at c.args.out.now c.requires.room c.filter_nulls-v.ensures.0 c.filter_first-f.ensures

pub data_size-requires : goal.data_size-requires
data_size-requires c = puts-order c.filter_second-d.ensures

pub returns : goal.returns
returns c =
    let p = c.args.picked in
    let v = c.filter_nulls-v.ensures in
    added (b p) (i p) (rs p) v.0 c.filter_first-f.ensures c.filter_second-d.ensures c.kind.result _ _ c.kind.ensures c.data_size.ensures v.1
