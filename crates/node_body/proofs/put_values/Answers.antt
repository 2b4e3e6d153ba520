-- `node_body::put_values` meets its contract: one buffer, by the list's offsets. Assumes nothing.
use Prim.Native.Nat.{suc}
use mathlib.Core.Path.{◌≡◌}
use native.Mathlib.Numerals.{add-one}
use Rattle.format.specs.Kept.{kept_spans}
use Rattle.format.specs.Node.{param}
use Rattle.nodes.proofs.BufferLaws.{b, i, rs}
use Rattle.nodes.proofs.ListLaws.{child-in}
use Rattle.node_body.proofs.AddLaws.{flat-copies, alone-room, alone}
use Rattle.node_body.proofs.put_values.Goals as goal
use Rattle.node_body.proofs.put_values.Goals.{After-node-width}

pub node-width-requires : goal.node-width-requires
node-width-requires c = rw add-one (child-in c.args.above c.requires.nests.0)

width_is : (c : After-node-width) → c.node-width.result.param ≡ param (b c.args.above) (suc (i c.args.above))
width_is c = rw c.node-width.ensures (rw add-one)

pub first_values-f-requires : goal.first_values-f-requires
first_values-f-requires c =
    let p = c.args.above in
    record {
      nests = c.requires.nests;
      copies = rw (width_is (goal.at.first_values-f-requires c).After-node-width) (flat-copies c.requires.flat.0);
      room = alone-room (b p) (suc (i p)) (kept_spans c.args.w (b p) (i p) (rs p)) c.requires.flat.0 c.requires.flat.1 c.args.at c.args.out.now c.requires.room;
    }

pub returns : goal.returns
returns c =
    let p = c.args.above in
    alone (b p) (suc (i p)) (kept_spans c.args.w (b p) (i p) (rs p)) c.requires.flat.0 c.requires.flat.1 c.first_values-f.ensures
