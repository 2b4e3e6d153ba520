-- `nodes::first_offsets` meets its contract: the rows lie in the journal. Assumes nothing.
use Rattle.std.proofs.Common.{◌≡◌, ◌+◌, ◌*◌}
use Rattle.format.specs.Node.{first_at, skip}
use Rattle.nodes.proofs.BufferLaws.{b, i, column-narrow, first-texts-are, texts-lie, place_is}
use Rattle.nodes.proofs.first_offsets.Given.{Over}
use Rattle.nodes.proofs.first_offsets.Goals as goal
use Rattle.nodes.proofs.first_offsets.Goals.{After-row_zero-place}

pub row_zero-place-requires : goal.row_zero-place-requires
row_zero-place-requires g c = rw c.WIDTH.ensures (column-narrow c.requires.column)

-- where row 0's offset stands
zero : (g : Over) (c : After-row_zero-place g) → let p = c.args.picked in c.row_zero-place.result ≡ first_at (b p) (i p) + g.N.Number.WIDTH * skip (b p) (i p)
zero g c = place_is _ _ c.node-node.ensures _ _ (rw c.WIDTH.ensures at c.row_zero-place.ensures)

pub put_offsets-requires : goal.put_offsets-requires
put_offsets-requires g c =
    let p = c.args.picked in
    let e = zero g (goal.at.put_offsets-requires g c).After-row_zero-place in
    record { offsets = rw e (texts-lie p c.requires.column).offsets; room = rw (e, ← first-texts-are p c.requires.column) c.requires.room }

pub returns : goal.returns
returns g c = rw (first-texts-are c.args.picked c.requires.column, ← zero g (goal.at.returns g c).After-row_zero-place) c.put_offsets.ensures
