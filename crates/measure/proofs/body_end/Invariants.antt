-- What the loop of `body_end` keeps: `at` is the body's length after the first i nodes. Assumes nothing.
use mathlib.Core.Path.{◌≡◌}
use Prim.Native.Nat.{◌≤◌, ◌*◌, ◌^◌}
use Rattle.nesting.specs.Rows.{picks_in}
use Rattle.measure.specs.Size.{body_end}
use Rattle.measure.proofs.body_end.Given as goal

abbrev pub invariant-loop-i : goal.invariant-loop-i
invariant-loop-i l = (l.at ≤ l.i * 2 ^ 32) × (l.at ≡ body_end l.counted.journal.now.bytes.now (picks_in l.counted.source) l.i)
