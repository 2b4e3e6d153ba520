-- `measure::runs_kept` meets its contract. Assumes nothing.
use mathlib.Core.Path.{sym, ◌∙◌}
use native.Mathlib.Omega.{arith}
use Rattle.measure.proofs.NodeEnd.{run-child, kept-few}
use Rattle.measure.proofs.runs_kept.Goals as goal

pub kept-requires : goal.kept-requires
kept-requires c =
    let q = c.requires.known in
    let h = run-child c.args.counted.ready q.0 (sym c.requires.of_value ∙ c.in-Runs.is) in
    (omega (arith, h, q.1), h)

pub returns-in-Runs-clause-few : goal.returns-in-Runs-clause-few
returns-in-Runs-clause-few c =
    let h = run-child c.args.counted.ready c.requires.known.0 (sym c.requires.of_value ∙ c.in-Runs.is) in
    omega (arith, c.kept.ensures, kept-few c.args.counted.ready h)

pub returns-in-Runs-clause-none : goal.returns-in-Runs-clause-none
returns-in-Runs-clause-none c = λ f. absurd (f (sym c.requires.of_value ∙ c.in-Runs.is))
