-- What the picked rows of a node hold. Assumes nothing.
use Rattle.std.specs.Prelude.{ℕ, Bool, List, map}
use Rattle.format.specs.declared.Kind.{Kind}
use Rattle.format.specs.Kept.{Cells, KeptNode, cells, kept_node}
use Rattle.format.specs.Node.{kind, param, valid}
use Rattle.predicate.specs.Selection.{selected}
use Rattle.nodes.specs.declared.picked.Picked.{Picked}

-- the journal, and the node's kind and param
abbrev pub bytes_of : Picked → List ℕ
bytes_of p = p.journal.now.bytes.now

abbrev pub kind_of : Picked → Kind
kind_of p = kind (bytes_of p) p.index

abbrev pub param_of : Picked → ℕ
param_of p = param (bytes_of p) p.index

-- which of the rows are not null; and what they hold
abbrev pub marks_of : Picked → List Bool
marks_of p = map (valid (bytes_of p) p.index) (selected p.sel)

abbrev pub values_of : Picked → Cells
values_of p = cells (kind_of p) (bytes_of p) p.index (selected p.sel)

-- both
abbrev pub kept_of : Picked → KeptNode
kept_of p = kept_node (bytes_of p) p.index (selected p.sel)
