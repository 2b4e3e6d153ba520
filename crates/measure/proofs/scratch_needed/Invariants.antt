-- What the loop of `scratch_needed` keeps: `need` is what the first i nodes take. Assumes nothing.
use mathlib.Core.Path.{◌≡◌}
use Prim.Native.Nat.{◌≤◌, ◌*◌}
use Rattle.format.specs.Bytes.{sum_below}
use Rattle.nesting.proofs.Scratch.{share}
use Rattle.measure.proofs.scratch_needed.Given as goal

abbrev pub invariant-loop-i : goal.invariant-loop-i
invariant-loop-i l = (l.need ≤ l.i * 1_048_576) × (l.need ≡ sum_below (share l.journal.bytes.now) l.i)
