-- `predicate::as_runs` meets its contract: either test. Assumes nothing.
use Rattle.predicate.proofs.as_runs.Goals as goal

pub returns : goal.returns
returns c = rw c.long.ensures
