-- `run` ends, since each case ends behind its start. Assumes nothing.
use Rattle.std.proofs.Common.{length}
use Rattle.pack_cases.proofs.run.Given as goal

abbrev pub decreases-loop-rest : goal.decreases-loop-rest
decreases-loop-rest g l = length l.rest
