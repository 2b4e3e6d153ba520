-- `content::numbers::nth` meets its contract. Assumes nothing.
use Rattle.std.proofs.Common.{arith}
use Rattle.format.proofs.Numbers.{le-lt}
use Rattle.content.specs.Numbers.{number}
use Rattle.content.proofs.numbers.nth.Goals as goal

pub returns-clause-value : goal.returns-clause-value
unfolding number
returns-clause-value g c = rw (c.wide.ensures, c.get.ensures.value, c.WIDTH.ensures)

pub returns-clause-fits : goal.returns-clause-fits
returns-clause-fits g c = rw (c.wide.ensures, c.get.ensures.value) (le-lt _ _ _ (λ i. omega (arith, c.type_inv.s i)))
