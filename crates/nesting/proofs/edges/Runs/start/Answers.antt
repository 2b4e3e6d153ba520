-- `nesting::edges::Runs::start` meets its contract. Assumes nothing.
use mathlib.Core.Path.{◌∙◌}
use Rattle.nesting.proofs.RunEdges.{start_first}
use Rattle.nesting.proofs.RunRows.{start_of}
use Rattle.nesting.proofs.edges.Runs.start.Goals as goal

pub returns-then-j-eq0 : goal.returns-then-j-eq0
returns-then-j-eq0 c = start_first _ _ _ c.if-j-eq0.true

pub returns : goal.returns
returns c = c.end.ensures ∙ start_of _ _ _ c.if-j-eq0.false
