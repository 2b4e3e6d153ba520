-- The innermost is the last of the array's front. Assumes nothing.
use Rattle.std.proofs.Common.{arith, ◌∙◌, sym, ap}
use Rattle.format.specs.Node.{innermost}
use Rattle.pack.proofs.Stack.{in-top, in-none}
use Rattle.pack.proofs.open_nodes.OpenNodes.innermost.Goals as goal

pub returns-then-self-eq0 : goal.returns-then-self-eq0
unfolding innermost
returns-then-self-eq0 c = sym (ap innermost (in-none _ c.self.inside.nodes (omega arith))) ∙ ap innermost c.self.view_is

pub returns : goal.returns
unfolding innermost
returns c = sym (ap innermost (in-top _ c.self.inside.nodes (omega arith))) ∙ ap innermost c.self.view_is
