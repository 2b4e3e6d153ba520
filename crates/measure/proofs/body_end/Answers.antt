-- `measure::body_end` meets its contract. The loop's invariant: `at` is the body's length after the first i nodes. Assumes nothing.
use native.Mathlib.Omega.{arith}
use mathlib.Core.Path.{sym}
use native.Mathlib.Numerals.{add-one}
use Rattle.measure.proofs.Sizes.{body-none}
use Rattle.measure.proofs.NodeEnd.{body-all}
use Rattle.measure.proofs.body_end.Goals as goal

pub loop-i-init : goal.loop-i-init
loop-i-init c = (omega arith, sym (body-none _ _))

pub node_end-at-requires : goal.node_end-at-requires
node_end-at-requires c =
    let q = c.requires in
    let few = c.args.counted.ready.sound.shape.few in
    record { known = (omega (arith, c.node_count-i-end.ensures, c.loop-i-test.true), q.known); long = q.long; at_value = (omega (arith, few, c.node_count-i-end.ensures, c.loop-i-test.true), c.loop-i.invariant.1) }

pub loop-i-preserved : goal.loop-i-preserved
loop-i-preserved c = (omega (arith, c.node_end-at.ensures.1), rw (add-one c.loop-i.i) c.node_end-at.ensures.0)

pub returns : goal.returns
returns c =
    let e = c.node_count-i-end.ensures in
    (body-all _ _ c.loop-i.i _ c.loop-i.invariant.1 (omega (arith, e, c.loop-i.auto.i-end, c.loop-i-test.false)), omega (arith, e, c.loop-i.auto.i-end, c.args.counted.ready.sound.shape.few))
