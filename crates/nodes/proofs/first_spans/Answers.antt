-- `nodes::first_spans` meets its contract: without a bitmap the offsets of a byte column, else by the rows' bits. Assumes nothing.
use Rattle.std.proofs.Common.{◌≡◌, ◌+◌, ◌*◌, sym, ◌∙◌}
use Rattle.format.specs.Node.{first_at, skip}
use Rattle.nodes.proofs.BufferLaws.{b, i, place_is}
use Rattle.nodes.proofs.ListLaws.{nests-narrow, plain-lies, first_plain, marked-lies, first-marked}
use Rattle.nodes.proofs.first_spans.Given.{Over}
use Rattle.nodes.proofs.first_spans.Goals as goal
use Rattle.nodes.proofs.first_spans.Goals.{After-row_zero-first}

pub row_zero-first-requires : goal.row_zero-first-requires
row_zero-first-requires g c = rw c.WIDTH.ensures (nests-narrow c.requires.nests)

-- where row 0's offset stands
zero : (g : Over) (c : After-row_zero-first g) → let p = c.args.picked in c.row_zero-first.result ≡ first_at (b p) (i p) + g.N.Number.WIDTH * skip (b p) (i p)
zero g c = place_is _ _ c.node-node.ensures _ _ (rw c.WIDTH.ensures at c.row_zero-first.ensures)

pub put_offsets-requires : goal.put_offsets-requires
put_offsets-requires g c =
    let p = c.args.picked in
    let e = zero g (goal.at.put_offsets-requires g c).After-row_zero-first in
    let k = c.requires.nests in
    record { offsets = plain-lies p k _ e; room = rw (← first_plain p k _ e (sym c.has_no_bitmap.ensures ∙ c.if-has_no_bitmap.true)) c.requires.room }

pub returns-then-has_no_bitmap : goal.returns-then-has_no_bitmap
returns-then-has_no_bitmap g c =
    let e = zero g (goal.at.returns-then-has_no_bitmap g c).After-row_zero-first in
    rw (first_plain c.args.picked c.requires.nests _ e (sym c.has_no_bitmap.ensures ∙ c.if-has_no_bitmap.true)) c.put_offsets.ensures

pub put_spans-requires : goal.put_spans-requires
put_spans-requires g c =
    let p = c.args.picked in
    let e = zero g (goal.at.put_spans-requires g c).After-row_zero-first in
    let k = c.requires.nests in
    record { spans = marked-lies p k _ e c.node-node.ensures (sym c.has_no_bitmap.ensures ∙ c.if-has_no_bitmap.false); room = rw (← first-marked p k _ e c.node-node.ensures (sym c.has_no_bitmap.ensures ∙ c.if-has_no_bitmap.false)) c.requires.room }

pub returns : goal.returns
returns g c =
    let e = zero g (goal.at.returns g c).After-row_zero-first in
    rw (first-marked c.args.picked c.requires.nests _ e c.node-node.ensures (sym c.has_no_bitmap.ensures ∙ c.if-has_no_bitmap.false)) c.put_spans.ensures
