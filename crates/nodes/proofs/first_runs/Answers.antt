-- `nodes::first_runs` meets its contract: the run ends lie in the journal and rise. Assumes nothing.
use mathlib.Core.Path.{◌≡◌}
use native.Mathlib.Numerals.{add-one}
use Rattle.format.specs.Node.{rows, child}
use Rattle.nodes.proofs.BufferLaws.{b, i, child-inside, runs-lie, first-runs-are}
use Rattle.nodes.proofs.first_runs.Goals as goal
use Rattle.nodes.proofs.first_runs.Goals.{After-rows}

pub rows-requires : goal.rows-requires
rows-requires c = rw add-one (child-inside c.args.picked c.requires.kind_value)

many : (c : After-rows) → c.rows.result ≡ rows (b c.args.picked) (child (i c.args.picked))
many c = rw add-one at c.rows.ensures

pub invariant_of-runs : goal.invariant_of-runs
invariant_of-runs c = record { lie = runs-lie c.args.picked c.requires.kind_value c.node-node.ensures (many (goal.at.invariant_of-runs c).After-rows) }

pub put_run_ends-requires : goal.put_run_ends-requires
put_run_ends-requires c =
    record { sourced = c.args.picked.sourced; room = rw (← first-runs-are c.args.picked c.requires.kind_value c.node-node.ensures (many (goal.at.put_run_ends-requires c).After-rows)) c.requires.room }

pub returns : goal.returns
returns c = rw (first-runs-are c.args.picked c.requires.kind_value c.node-node.ensures (many (goal.at.returns c).After-rows)) c.put_run_ends.ensures
