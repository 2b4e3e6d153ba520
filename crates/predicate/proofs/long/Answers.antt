-- `predicate::long` meets its contract: the very test. Assumes nothing.
use Rattle.std.proofs.Common.{refl}
use Rattle.predicate.proofs.long.Goals as goal

pub returns : goal.returns
returns c = refl
