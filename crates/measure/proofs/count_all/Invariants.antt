-- What the loop of `count_all` keeps: the first i nodes are counted. Assumes nothing.
use mathlib.Core.Path.{◌≡◌}
use lib.ListN.{length}
use Rattle.nesting.specs.Rows.{Counts, picks_in}
use Rattle.measure.proofs.count_all.Given as goal

abbrev pub invariant-loop-i : goal.invariant-loop-i
invariant-loop-i l = (length l.counts ≡ 64) × Counts l.journal.bytes.now (picks_in l.source) l.i l.counts
