-- `journal::Journal::kind` meets its contract. Assumes nothing.
use mathlib.Core.Path.{◌∙◌, ap}
use Rattle.format.specs.Node.{kind, kind_of}
use Rattle.journal.proofs.Journal.kind.Goals as goal

pub returns : goal.returns
unfolding kind
returns c = c.from.ensures ∙ ap (λ n. kind_of n.kind) c.node.ensures
