-- `content::runs::bad_runs` meets its contract: each arm is its width. Assumes nothing.
use Rattle.std.proofs.Common.{◌∙◌, arith}
use Rattle.format.proofs.Accepted.{wide-last}
use Rattle.content.proofs.runs.bad_runs.Goals as goal

pub bad_runs_of-requires-in_default : goal.bad_runs_of-requires-in_default
bad_runs_of-requires-in_default c = rw (wide-last _ c.requires.0 (λ e. omega arith) (λ e. omega arith)) at c.requires.1

pub returns-in_default : goal.returns-in_default
returns-in_default c = c.bad_runs_of-in_default.ensures ∙ rw (wide-last _ c.requires.0 (λ e. omega arith) (λ e. omega arith))
