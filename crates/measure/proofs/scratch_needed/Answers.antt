-- `measure::scratch_needed` meets its contract. The loop's invariant: `need` is what the first i nodes take. Assumes nothing.
use mathlib.Core.Path.{sym, ap, ◌∙◌}
use Prim.Native.Nat.{◌<◌}
use native.Mathlib.Omega.{arith}
use Rattle.format.specs.Bytes.{bytes_for}
use Rattle.format.specs.Node.{node_count}
use Rattle.nesting.proofs.Handed.{takes-is}
use Rattle.nesting.proofs.Scratch.{scratch-none, scratch-all, scratch-more, scratch-same, child-inside, child-few}
use Rattle.measure.proofs.scratch_needed.Goals as goal

pub loop-i-init : goal.loop-i-init
loop-i-init c = (omega arith, scratch-none _)

pub loop-i-preserved-then-not-takes_scratch : goal.loop-i-preserved-then-not-takes_scratch
loop-i-preserved-then-not-takes_scratch c =
    let h : c.loop-i.i < node_count c.args.journal.now.bytes.now = omega (arith, c.node_count-i-end.ensures, c.loop-i-test.true) in
    (omega arith, scratch-same c.args.journal.now.sound h (sym (takes-is _ _ c.node.ensures c.takes_scratch.ensures) ∙ c.if-not-takes_scratch.true) _ c.loop-i.invariant.1)

pub rows-requires : goal.rows-requires
rows-requires c =
    let h : c.loop-i.i < node_count c.args.journal.now.bytes.now = omega (arith, c.node_count-i-end.ensures, c.loop-i-test.true) in
    child-inside c.args.journal.now.sound h (sym (takes-is _ _ c.node.ensures c.takes_scratch.ensures) ∙ c.if-not-takes_scratch.false)

pub bytes_for-need-requires : goal.bytes_for-need-requires
bytes_for-need-requires c =
    let h : c.loop-i.i < node_count c.args.journal.now.bytes.now = omega (arith, c.node_count-i-end.ensures, c.loop-i-test.true) in
    omega (arith, c.rows.ensures, child-few c.args.journal.now.sound h (sym (takes-is _ _ c.node.ensures c.takes_scratch.ensures) ∙ c.if-not-takes_scratch.false))

pub overflow_add-need : goal.overflow_add-need
overflow_add-need c =
    let s = c.args.journal.now.sound in
    let h : c.loop-i.i < node_count c.args.journal.now.bytes.now = omega (arith, c.node_count-i-end.ensures, c.loop-i-test.true) in
    omega (arith, c.bytes_for-need.ensures.1, c.rows.ensures, child-few s h (sym (takes-is _ _ c.node.ensures c.takes_scratch.ensures) ∙ c.if-not-takes_scratch.false), s.shape.few)

pub loop-i-preserved : goal.loop-i-preserved
loop-i-preserved c =
    let s = c.args.journal.now.sound in
    let h : c.loop-i.i < node_count c.args.journal.now.bytes.now = omega (arith, c.node_count-i-end.ensures, c.loop-i-test.true) in
    let t = sym (takes-is _ _ c.node.ensures c.takes_scratch.ensures) ∙ c.if-not-takes_scratch.false in
    (omega (arith, c.bytes_for-need.ensures.1, c.rows.ensures, child-few s h t), scratch-more s h t _ _ c.loop-i.invariant.1 (c.bytes_for-need.ensures.0 ∙ ap bytes_for c.rows.ensures))

pub returns : goal.returns
returns c = scratch-all _ _ _ c.loop-i.invariant.1 (omega (arith, c.node_count-i-end.ensures, c.loop-i.auto.i-end, c.loop-i-test.false))
