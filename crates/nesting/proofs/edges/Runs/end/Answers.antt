-- `nesting::edges::Runs::end` meets its contract. Assumes nothing.
use mathlib.Core.Path.{◌∙◌}
use Rattle.format.specs.Node.{run_end}
use Rattle.words.proofs.Widths.{wider}
use Rattle.nesting.proofs.RunEdges.{runs_wide}
use Rattle.nesting.proofs.edges.Runs.end.Goals as goal

pub read_number-requires-clause-is_width : goal.read_number-requires-clause-is_width
read_number-requires-clause-is_width c = rw c.args.self.wide (wider _ (runs_wide c.args.self.at))

pub returns : goal.returns
unfolding run_end
returns c = c.read_number.ensures ∙ rw (c.args.self.wide, c.args.self.begins)
