-- `nodes::first_values` meets its contract: what the list's rows have of their own are the entries of its child. Assumes nothing.
use Prim.Native.Nat.{suc, ◌+◌, ◌*◌}
use mathlib.Core.Path.{◌≡◌}
use native.Mathlib.Numerals.{add-one}
use Rattle.format.specs.Node.{first_at, skip}
use Rattle.nodes.proofs.BufferLaws.{b, i, place_is}
use Rattle.nodes.proofs.ListLaws.{nests-narrow, child-in, child-narrow, values-lie, first-values-are}
use Rattle.nodes.proofs.first_values.Goals as goal
use Rattle.nodes.proofs.first_values.Goals.{After-row_zero-2}

pub node-node-requires : goal.node-node-requires
node-node-requires c = rw add-one (child-in c.args.above c.requires.nests.0)

pub row_zero-requires : goal.row_zero-requires
row_zero-requires c = nests-narrow c.requires.nests.0

pub row_zero-requires-2 : goal.row_zero-requires-2
row_zero-requires-2 c = child-narrow c.args.above c.requires.nests.0 c.requires.copies

-- where row 0 of the list and of the child stand
start_is : (c : After-row_zero-2) → let p = c.args.above in c.row_zero-2.result ≡ first_at (b p) (suc (i p)) + c.args.width * skip (b p) (suc (i p))
start_is c = place_is _ _ (rw add-one at c.node-node.ensures) c.args.width _ c.row_zero-2.ensures

pub put_texts-requires : goal.put_texts-requires
put_texts-requires c =
    let p = c.args.above in
    let e = place_is (b p) (i p) c.node-list.ensures c.args.w _ c.row_zero.ensures in
    let f = start_is (goal.at.put_texts-requires c).After-row_zero-2 in
    record { texts = rw (e, f) (values-lie p c.requires.nests.0 c.requires.copies); room = rw (e, f, ← first-values-are p c.requires.nests.0 c.requires.copies c.requires.nests.1) c.requires.room }

pub returns : goal.returns
returns c =
    let p = c.args.above in
    let e = place_is (b p) (i p) c.node-list.ensures c.args.w _ c.row_zero.ensures in
    rw (first-values-are p c.requires.nests.0 c.requires.copies c.requires.nests.1, ← e, ← start_is (goal.at.returns c).After-row_zero-2) c.put_texts.ensures
