-- `stored_list::put_word` meets its contract: each row that is given is the next to store. Assumes nothing.
use Rattle.std.proofs.Common.{refl, arith}
use Rattle.format.proofs.Put.{stored, done}
use Rattle.format.proofs.RowLaws.{below_wider, below-first, below-others}
use Rattle.stored_list.proofs.put_word.Goals as goal
use Rattle.stored_list.proofs.put_word.Goals.{In-Some}

pub loop-row-init-derived : goal.loop-row-init-derived
loop-row-init-derived c =
    rw (c.into_iter-row-iterator.ensures.into_iter_gives, c.new-row-items.ensures.base, c.new-row-items.ensures.rest) (below_wider (omega arith) c.requires.below, tt)

pub overflow_cast-list : goal.overflow_cast-list
overflow_cast-list c = omega (arith, below-first (rw c.in-Some.ensures.steps at c.loop-row.invariant.0))

pub loop-row-preserved : goal.loop-row-preserved
loop-row-preserved c = (below-others (rw c.in-Some.ensures.steps at c.loop-row.invariant.0), stored c.loop-row.invariant.1 c.in-Some.ensures.steps refl)

pub returns : goal.returns
returns c = done c.loop-row.invariant.1 c.in-None.ensures.steps.0 refl
