-- `checker::buffers::bad_buffers` meets its contract: the sizes are the callees'. Assumes nothing.
use Rattle.format.specs.Bytes.{bytes_for}
use Rattle.std.proofs.Common.{rules, of_calls, not, ◌&&◌, eqb, ltb, ◌≡◌, ◌+◌, ◌/◌}
use Rattle.format.specs.Node.{has_no_bitmap, no_bitmap, kind, places}
use Rattle.format.specs.Verdict.{bad_buffers}
use Rattle.pack.proofs.Bitmap.{tested}
use Rattle.checker.proofs.Sizes.{few-rows}
use Rattle.checker.proofs.buffers.bad_buffers.Goals as goal

pub first_size-first-requires : goal.first_size-first-requires
first_size-first-requires c = let r = c.before.before.before.before.before in few-rows _ _ r.requires.0 _ r.node_at-n.ensures r.requires.2

pub second_size-second-requires : goal.second_size-second-requires
second_size-second-requires c = let r = c.before.before.before.before.before.before in few-rows _ _ r.requires.0 _ r.node_at-n.ensures r.requires.2

pub returns : goal.returns
unfolding bad_buffers places bytes_for has_no_bitmap kind
returns c =
    let marked : c.is_some_and.result ≡ (not (eqb c.node_at-n.result.validity_at no_bitmap) && ltb c.table_start.result (c.node_at-n.result.validity_at + (c.node_at-n.result.skip + c.node_at-n.result.rows + 7) / 8)) =
    let e = c.bitmap.ensures in let h = c.is_some_and.ensures in tested _ _ _ _ (λ at. ltb c.table_start.result (at + (c.node_at-n.result.skip + c.node_at-n.result.rows + 7) / 8)) e (let k = h in search (rules, of_calls)) in
    rw (marked, c.first_size-first.ensures.0, c.second_size-second.ensures.0, c.child_rows.ensures, c.table_start.ensures, c.from-kind.ensures, c.node_at-n.ensures)
