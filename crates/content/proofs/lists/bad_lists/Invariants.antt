-- What the loop of `lists::bad_lists` keeps. Assumes nothing.
use Rattle.content.proofs.SignLaws.{Joined}
use Rattle.content.proofs.lists.bad_lists.Given as goal

abbrev pub invariant-loop-i : goal.invariant-loop-i
invariant-loop-i g l = Joined g.N.Number.WIDTH l.s l.at l.sizes l.limit (g.N.Number.value l.signs) l.bad l.i
