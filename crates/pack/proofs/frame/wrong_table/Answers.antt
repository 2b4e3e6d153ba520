-- `pack::frame::wrong_table` meets its contract: the numbers are the trailer's. Assumes nothing.
use Rattle.format.specs.Verdict.{wrong_table}
use Rattle.pack.proofs.frame.wrong_table.Goals as goal

pub returns : goal.returns
unfolding wrong_table
returns c = rw c.trailer_of-t.ensures
