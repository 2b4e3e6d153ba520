-- `runs::filter_run_ends` meets its contract: no run ends where no row is kept; and of all rows a range keeps as many as it has. Assumes nothing.
use Rattle.std.proofs.Common.{rules, ◌≡◌, ◌-◌, refl, sym, ◌∙◌}
use Rattle.format.proofs.Put.{none}
use Rattle.runs.proofs.CountLaws.{count-all}
use Rattle.runs.proofs.EndLaws.{no-ends}
use Rattle.runs.proofs.filter_run_ends.Goals as goal

pub returns-in-Nothing : goal.returns-in-Nothing
returns-in-Nothing c = rw c.in-Nothing.is (none (no-ends c.args.runs) refl)

pub ends_by-requires-clause-counts : goal.ends_by-requires-clause-counts
ends_by-requires-clause-counts c = λ lo hi n l h e. let d : n ≡ hi - lo = search rules in rw c.in-Everything.is (d ∙ sym (count-all _ _))
