-- No node is open at first. Assumes nothing.
use Rattle.std.proofs.Common.{refl}
use Rattle.pack.specs.Tree.{ancestors_in}
use Rattle.pack.proofs.open_nodes.OpenNodes.new.Goals as goal

pub returns : goal.returns
unfolding ancestors_in
returns c = refl
