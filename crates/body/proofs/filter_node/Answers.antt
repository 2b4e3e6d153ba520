-- `body::filter_node` meets its contract: its buffers, and fields that fit. Assumes nothing.
use mathlib.Core.Path.{◌∙◌}
use native.Mathlib.Omega.{arith}
use Rattle.measure.proofs.NodeEnd.{kept-few}
use Rattle.body.proofs.Fields.{small, written_of}
use Rattle.body.proofs.filter_node.Goals as goal

pub node_put-node-requires : goal.node_put-node-requires
node_put-node-requires c =
    let q = c.requires in
    small _ _ _ c.put_kept-b.ensures (omega (arith, q.room, q.i_bound.2)) c.kept.ensures (kept-few c.args.regions.now.counted.ready q.i_bound.0)

pub returns : goal.returns
returns c = written_of _ _ _ c.put_kept-b.ensures c.kept.ensures (c.put_node.ensures ∙ rw (c.node_put-node.ensures, c.node.ensures))
