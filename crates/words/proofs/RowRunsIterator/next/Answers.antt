-- `next` of `RowRuns` meets its contract. Assumes nothing.
use Rattle.std.proofs.Common.{refl}
use Rattle.words.proofs.Carry.{rest_below}
use Rattle.words.proofs.RowRunsIterator.next.Goals as goal

pub returns-clause-steps : goal.returns-clause-steps
returns-clause-steps c = (refl, c.lowest_run-run.ensures)

pub returns-clause-goes : goal.returns-clause-goes
returns-clause-goes c =
    let left = rest_below c.lowest_run-run.ensures c.requires in
    record { on = λ _. (left, tt, c.lowest_run-run.ensures.less); keeps = left; rests = λ _. tt }
