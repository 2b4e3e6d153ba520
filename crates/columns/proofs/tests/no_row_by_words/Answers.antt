-- The call of the test `no_row_by_words` asks for no room: no row is left. Assumes nothing.
use Rattle.std.proofs.Common.{[], false, refl, arith}
use Rattle.predicate.proofs.Picks.{picks-over}
use Rattle.append.proofs.CellLaws.{entries_none}
use Rattle.columns.proofs.tests.no_row_by_words.Goals as goal

pub pass_words-requires-clause-place_in_bounds : goal.pass_words-requires-clause-place_in_bounds
pass_words-requires-clause-place_in_bounds g c = rw (picks-over (λ i. false) 0 0 (omega arith), entries_none 1 _ 0 [] refl) (omega arith)
