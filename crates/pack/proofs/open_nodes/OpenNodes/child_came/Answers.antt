-- The innermost node alone is written, where there is one. Assumes nothing.
use Rattle.std.proofs.Common.{rules, ◌≡◌, [], ◌∙◌, sym, ap}
use Rattle.format.specs.Node.{one_less}
use Rattle.pack.proofs.Stack.{in-less, in-none}
use Rattle.pack.proofs.open_nodes.OpenNodes.child_came.Goals as goal

pub returns-then-self-gt0 : goal.returns-then-self-gt0
returns-then-self-gt0 c = in-less _ _ c.if-self-gt0.true (search rules) c.saturating_sub.ensures ∙ ap one_less c.self.view_is

pub returns-else-self-gt0 : goal.returns-else-self-gt0
unfolding one_less
returns-else-self-gt0 c = let e : c.args.self.now ≡ [] = sym c.self.view_is ∙ in-none _ _ c.if-self-gt0.false in rw e
