-- The call of the test `no_row_by_runs` asks for no room: no row is left. Assumes nothing.
use Rattle.std.proofs.Common.{[], false, refl, arith}
use Rattle.predicate.proofs.Picks.{picks-over}
use Rattle.append.proofs.CellLaws.{entries_none}
use Rattle.columns.proofs.tests.no_row_by_runs.Goals as goal

pub pass_runs-requires-clause-place_in_bounds : goal.pass_runs-requires-clause-place_in_bounds
pass_runs-requires-clause-place_in_bounds g c = rw (picks-over (λ i. false) 0 0 (omega arith), entries_none 1 _ 0 [] refl) (omega arith)
