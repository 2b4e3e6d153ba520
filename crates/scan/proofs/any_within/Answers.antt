-- `scan::any_within` meets its contract: the word of the range, or a search. Assumes nothing.
use Rattle.std.proofs.Common.{arith}
use Rattle.scan.proofs.Asked.{word-any}
use Rattle.scan.proofs.any_within.Goals as goal

pub returns-then-hi-lo : goal.returns-then-hi-lo
returns-then-hi-lo c = word-any _ _ _ _ (omega arith) c.window57_in.ensures
