-- What the loop of `fill_all` keeps: the children of the first i nodes have their bitmaps. Assumes nothing.
use mathlib.Core.Path.{◌≡◌}
use lib.ListN.{length}
use Rattle.nesting.specs.Rows.{picks_in}
use Rattle.fill.proofs.Filling.{FilledTo}
use Rattle.fill.proofs.fill_all.Given as goal

abbrev pub invariant-loop-i : goal.invariant-loop-i
invariant-loop-i l = (length l.places ≡ 64) × FilledTo l.counted.journal.now.bytes.now (picks_in l.counted.source) l.i l.initial.scratch l.scratch l.places l.at
