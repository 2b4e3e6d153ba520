-- `nesting::edges::Runs::end_edge` meets its contract: the run end, less skip, cut at len. Assumes nothing.
use mathlib.Core.Path.{◌∙◌}
use Rattle.nesting.proofs.RunEdges.{edge-next}
use Rattle.nesting.proofs.edges.Runs.end_edge.Goals as goal

pub returns : goal.returns
returns c = c.min.ensures ∙ rw (c.saturating_sub.ensures, c.end.ensures, c.args.self.skips) (edge-next _ _ _ _)
