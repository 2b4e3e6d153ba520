-- `nodes::second_texts` meets its contract: the rows lie in the journal. Assumes nothing.
use mathlib.Core.Path.{◌≡◌}
use Rattle.format.specs.Node.{second_at}
use Rattle.nodes.proofs.BufferLaws.{b, i, column-narrow, second-texts-are, texts-lie, place_is}
use Rattle.nodes.proofs.second_texts.Goals as goal
use Rattle.nodes.proofs.second_texts.Goals.{After-node-node}

pub row_zero-requires : goal.row_zero-requires
row_zero-requires c = column-narrow c.requires.column

data_is : (c : After-node-node) → c.node-node.result.second_at ≡ second_at (b c.args.picked) (i c.args.picked)
data_is c = rw c.node-node.ensures

pub put_texts-requires : goal.put_texts-requires
put_texts-requires c =
    let p = c.args.picked in
    let e = place_is (b p) (i p) c.node-node.ensures c.args.width _ c.row_zero.ensures in
    let f = data_is (goal.at.put_texts-requires c).After-node-node in
    record { texts = rw (e, f) (texts-lie p c.requires.column); room = rw (e, f, ← second-texts-are p c.requires.column) c.requires.room }

pub returns : goal.returns
returns c =
    let p = c.args.picked in
    let e = place_is (b p) (i p) c.node-node.ensures c.args.width _ c.row_zero.ensures in
    rw (second-texts-are p c.requires.column, ← e, ← data_is (goal.at.returns c).After-node-node) c.put_texts.ensures
