-- `pack::frame::wrong_size` meets its contract. Assumes nothing.
use mathlib.Core.Path.{refl}
use Rattle.format.specs.Verdict.{wrong_size}
use Rattle.pack.proofs.frame.wrong_size.Goals as goal

pub returns : goal.returns
unfolding wrong_size
returns c = refl
