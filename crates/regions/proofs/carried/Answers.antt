-- `regions::carried` meets its contract. Assumes nothing.
use borrow.Author.Tests.{eq-eqb, ne_eqb}
use Rattle.regions.proofs.carried.Goals as goal

pub returns-then-kept-eq0 : goal.returns-then-kept-eq0
returns-then-kept-eq0 c = simp (eq-eqb _ 0 c.if-kept-eq0.true)

pub returns : goal.returns
returns c = simp (ne_eqb _ 0 c.if-kept-eq0.false)
