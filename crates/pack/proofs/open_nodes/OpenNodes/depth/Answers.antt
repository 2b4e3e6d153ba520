-- As many nodes are open as the array's front has. Assumes nothing.
use Rattle.std.proofs.Common.{◌∙◌, sym, ap, length}
use Rattle.pack.proofs.Stack.{length-in}
use Rattle.pack.proofs.open_nodes.OpenNodes.depth.Goals as goal

pub returns : goal.returns
returns c = (sym (ap length (sym c.self.view_is) ∙ length-in _ _), c.self.invariant)
