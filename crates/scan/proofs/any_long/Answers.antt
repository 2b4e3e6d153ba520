-- `scan::any_long` meets its contract: the word of the range, or a search. Assumes nothing.
use Rattle.std.proofs.Common.{arith}
use Rattle.scan.proofs.Asked.{word-any}
use Rattle.scan.proofs.any_long.Goals as goal

pub returns-then-lo-source : goal.returns-then-lo-source
returns-then-lo-source c = word-any _ _ _ _ (omega arith) c.window_in.ensures
