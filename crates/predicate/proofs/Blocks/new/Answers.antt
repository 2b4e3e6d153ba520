-- `predicate::Blocks::new` meets its contract. Assumes nothing.
use Rattle.std.proofs.Common.{refl}
use Rattle.predicate.proofs.Steps.{goes-start, step-start}
use Rattle.predicate.proofs.Blocks.new.Goals as goal

pub returns-clause-in_step : goal.returns-clause-in_step
returns-clause-in_step c = step-start (refl, refl, refl)

pub returns-clause-goes_on : goal.returns-clause-goes_on
returns-clause-goes_on c = goes-start (refl, refl, refl)
