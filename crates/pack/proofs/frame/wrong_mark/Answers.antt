-- `pack::frame::wrong_mark` meets its contract: the mark is the trailer's. Assumes nothing.
use Rattle.format.specs.Verdict.{wrong_mark}
use Rattle.pack.proofs.frame.wrong_mark.Goals as goal

pub returns : goal.returns
unfolding wrong_mark
returns c = rw c.trailer_of-mark.ensures
