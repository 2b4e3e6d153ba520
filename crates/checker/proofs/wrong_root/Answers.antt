-- `checker::wrong_root` meets its contract. Assumes nothing.
use Rattle.std.proofs.Common.{◌∙◌, refl, ap, not}
use Rattle.format.specs.declared.Kind.TheVariants.{Bits}
use Rattle.format.specs.Node.{kind_of}
use Rattle.format.specs.Verdict.{wrong_root}
use Rattle.pack.proofs.Closed.{kind-is, kind-read}
use Rattle.checker.proofs.wrong_root.Goals as goal

pub returns : goal.returns
unfolding wrong_root kind_of
returns c = c.ne.ensures ∙ ap not (kind-is _ 0 1 Bits refl refl (λ e. cc) (kind-read _ _ c.node_at.ensures c.from.ensures))
