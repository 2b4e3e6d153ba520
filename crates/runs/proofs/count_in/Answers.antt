-- `runs::count_in` meets its contract: the ones of one word, or a count. Assumes nothing.
use native.Mathlib.Omega.{arith}
use Rattle.runs.proofs.CountLaws.{ones-few, ones-picks}
use Rattle.runs.proofs.count_in.Goals as goal

pub returns-then-hi-lo : goal.returns-then-hi-lo
returns-then-hi-lo c = ones-picks _ _ _ _ c.window57_in.ensures

pub overflow_cast-result : goal.overflow_cast-result
overflow_cast-result c = omega (arith, ones-few _ _ _ _ c.window57_in.ensures)
