-- `run` ends, since each line ends behind its start. Assumes nothing.
use Rattle.std.proofs.Common.{length}
use Rattle.calls.proofs.run.Given as goal

abbrev pub decreases-loop-c : goal.decreases-loop-c
decreases-loop-c g l = length l.rest
