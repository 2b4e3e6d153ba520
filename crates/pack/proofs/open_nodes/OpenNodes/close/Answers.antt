-- What is left to close is what was to be closed at first. Assumes nothing.
use Rattle.std.proofs.Common.{arith, sym, ap, ◌∙◌}
use Rattle.format.specs.Node.{closed}
use Rattle.pack.proofs.Stack.{in-closed, in-open, in-none}
use Rattle.pack.proofs.open_nodes.OpenNodes.close.Goals as goal

pub loop-self-preserved : goal.loop-self-preserved
loop-self-preserved c = (omega arith, in-closed _ _ c.loop-self-test.true c.if-self-eq0.true ∙ c.loop-self.invariant.1)

pub returns-else-self-eq0 : goal.returns-else-self-eq0
returns-else-self-eq0 c = in-open _ _ c.loop-self-test.true c.if-self-eq0.false ∙ c.loop-self.invariant.1 ∙ ap closed c.self.view_is

pub returns-after-loop-self : goal.returns-after-loop-self
unfolding closed
returns-after-loop-self c =
    let e = in-none _ c.loop-self.self-inside.nodes c.loop-self-test.false in
    e ∙ sym (ap closed e) ∙ c.loop-self.invariant.1 ∙ ap closed c.self.view_is
