-- `nesting::top::at_root` meets its contract. Assumes nothing.
use Rattle.nesting.proofs.Levels.{level-root}
use Rattle.nesting.proofs.top.at_root.Goals as goal

pub returns : goal.returns
returns c = level-root c.top_of.ensures.level
