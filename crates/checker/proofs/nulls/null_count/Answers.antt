-- `checker::nulls::null_count` meets its contract: a bitmap stands where the node says. Assumes nothing.
use Rattle.std.proofs.Common.{◌∙◌, arith}
use Rattle.pack.proofs.Bitmap.{none-at, one-at}
use Rattle.checker.proofs.Counts.{by-bitmap, marks-lie, no-bitmap}
use Rattle.checker.proofs.nulls.null_count.Goals as goal

pub null_count-requires : goal.null_count-requires
null_count-requires c =
    let s = one-at _ _ _ _ c.bitmap.ensures c.in-Some.is in
    rw (s.0) (marks-lie _ _ c.requires.laid c.requires.i_bound c.node_at-n.ensures (s.1) (λ i. omega (arith, c.type_inv.pack i)))

pub returns-in-Some : goal.returns-in-Some
returns-in-Some c =
    let s = one-at _ _ _ _ c.bitmap.ensures c.in-Some.is in
    c.null_count.ensures ∙ rw (s.0) (by-bitmap _ _ c.requires.laid c.requires.i_bound c.node_at-n.ensures (s.1))

pub returns-in-None : goal.returns-in-None
returns-in-None c = no-bitmap _ _ c.requires.laid c.requires.i_bound c.node_at-n.ensures (none-at _ _ _ c.bitmap.ensures c.in-None.is)
