-- What the loop of `count_words` keeps: n counts the picks of the words passed. Assumes nothing.
use Prim.Native.Nat.{◌*◌, ◌≤◌}
use mathlib.Core.Path.{◌≡◌}
use lib.ListN.{length}
use Rattle.format.specs.Slots.{picks_from}
use Rattle.slots.specs.Slot.{slot_in}
use Rattle.runs.proofs.count_words.Given as goal

abbrev pub invariant-loop-w : goal.invariant-loop-w
invariant-loop-w l = (l.n ≤ 64 * l.w) × (l.n ≡ length (picks_from (slot_in l.source) (64 * l.w) l.lo))
