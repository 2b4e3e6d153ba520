-- The new node stands behind those that are open. Assumes nothing.
use Rattle.std.proofs.Common.{arith, ◌∷◌, ◌∙◌, sym, ap, length}
use Rattle.format.specs.Node.{ancestor}
use Rattle.pack.proofs.Stack.{length-in, in-push}
use Rattle.pack.proofs.open_nodes.OpenNodes.push.Goals as goal

pub bounds-self-inside-self-inside : goal.bounds-self-inside-self-inside
bounds-self-inside-self-inside c = omega (arith, ap length (sym c.self.view_is) ∙ length-in _ _)

pub invariant_of-self : goal.invariant_of-self
invariant_of-self c = omega (arith, ap length (sym c.self.view_is) ∙ length-in _ _)

pub returns : goal.returns
returns c = in-push _ _ _ (omega (arith, ap length (sym c.self.view_is) ∙ length-in _ _)) ∙ ap (ancestor c.args.node c.args.left ∷◌) c.self.view_is
