-- `pack::frame::carries_counts` meets its contract: the mark is the trailer's. Assumes nothing.
use Rattle.format.specs.Node.{carries_counts}
use Rattle.pack.proofs.frame.carries_counts.Goals as goal

pub returns : goal.returns
unfolding carries_counts
returns c = rw c.trailer_of.ensures
