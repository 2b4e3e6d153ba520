-- `measure::count_all` meets its contract. The loop's invariant: the first i nodes are counted. Assumes nothing.
use mathlib.Core.Path.{refl}
use Rattle.nesting.proofs.Counting.{counted-first}
use Rattle.measure.proofs.count_all.Goals as goal

pub loop-i-init : goal.loop-i-init
loop-i-init c = (refl, counted-first _ _ _ _ refl c.requires.kept_value)
