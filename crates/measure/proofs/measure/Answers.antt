-- `measure::measure` meets its contract. Assumes nothing.
use Rattle.format.specs.Bytes.{raised}
use native.Mathlib.Omega.{arith}
use Rattle.measure.proofs.NodeEnd.{extract-is}
use Rattle.measure.proofs.measure.Goals as goal

pub overflow_add-result : goal.overflow_add-result
unfolding raised
overflow_add-result c = omega (arith, c.node_count.ensures, c.args.counted.ready.sound.shape.few, c.raise.ensures, c.body_end.ensures.1)

pub overflow_add-result-2 : goal.overflow_add-result-2
unfolding raised
overflow_add-result-2 c = omega (arith, c.node_count.ensures, c.args.counted.ready.sound.shape.few, c.raise.ensures, c.body_end.ensures.1)

pub returns : goal.returns
returns c = extract-is _ _ c.body_end.ensures.0 c.raise.ensures c.node_count.ensures
