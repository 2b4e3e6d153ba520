-- `pack::read::child_rows` meets its contract. Assumes nothing.
use Rattle.pack.specs.declared.Node.{Node}
use mathlib.Core.Path.{◌∙◌, ap}
use native.Mathlib.Numerals.{add-one}
use Rattle.pack.proofs.read.child_rows.Goals as goal

pub returns : goal.returns
returns c = ap (λ (n : Node). n.rows) c.node_at.ensures ∙ rw add-one
