-- `fill::told_by` meets its contract: the climb ends at the root, at a node with a bitmap, or at a carried child. Assumes nothing.
use Prim.Native.Nat.{◌<◌}
use mathlib.Core.Path.{sym, ◌∙◌}
use native.Mathlib.Omega.{arith}
use Rattle.nesting.specs.Rows.{picks_in}
use Rattle.nesting.proofs.Handed.{takes-is}
use Rattle.fill.proofs.Reading.{as-root, above-lies, above-picks, all-or-none}
use Rattle.fill.proofs.told_by.Goals as goal

pub returns-then-top-eq0 : goal.returns-then-top-eq0
returns-then-top-eq0 c = as-root _ c.args.counted.ready.sound c.top_of-top.ensures c.if-top-eq0.true

pub invariant_of-result : goal.invariant_of-result
invariant_of-result c =
    let q = c.requires in
    let r = c.args.counted.ready in
    let takes = sym (takes-is _ _ c.node.ensures c.takes_scratch.ensures) ∙ c.if-takes_scratch.true in
    record { lies = rw (c.plain_bits-bits.ensures, c.rows.ensures) (above-lies _ r.sound c.top_of-top.ensures (omega arith) (rw c.parent.ensures at takes) q.i_bound.1 q.earlier) }

pub returns-then-takes_scratch : goal.returns-then-takes_scratch
returns-then-takes_scratch c =
    let q = c.requires in
    let r = c.args.counted.ready in
    let takes = sym (takes-is _ _ c.node.ensures c.takes_scratch.ensures) ∙ c.if-takes_scratch.true in
    let t = c.top_of-top.ensures in
    rw (c.plain_bits-bits.ensures, c.rows.ensures) (above-picks _ r.sound t (omega arith) (rw c.parent.ensures at takes) q.i_bound.1 q.earlier r.rooted, t.level.long)

pub returns : goal.returns
returns c =
    let r = c.args.counted.ready in
    let none = sym (takes-is _ _ c.node.ensures c.takes_scratch.ensures) ∙ c.if-takes_scratch.false in
    all-or-none _ r.sound c.top_of-top.ensures (omega arith) (rw c.parent.ensures at none)
