-- What the loops of `next_word` keep, and their measures. Assumes nothing.
use Rattle.std.proofs.Common.{◌≡◌, ◌+◌, ◌-◌, ◌*◌, ◌≤◌}
use Rattle.format.specs.Slots.{word_from, after}
use Rattle.slots.specs.Slot.{slot_in}
use Rattle.scan.proofs.Scan.{Scanned}
use Rattle.predicate.proofs.next_word.Given as goal

abbrev pub invariant-loop-x : goal.invariant-loop-x
invariant-loop-x l = (64 * l.w + 128 ≤ l.len) × Scanned (slot_in l.source) l.place l.w l.place l.place × (l.x ≡ word_from (after (slot_in l.source) l.place) 64 (64 * l.w))

abbrev pub decreases-loop-x : goal.decreases-loop-x
decreases-loop-x l = l.len - 64 * l.w
