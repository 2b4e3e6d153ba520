-- What the loops of `next_run` keep, and their measures. Assumes nothing.
use Rattle.std.proofs.Common.{◌≡◌, ◌-◌, ◌*◌, ◌<◌}
use Rattle.format.specs.Slots.{word_from, after}
use Rattle.slots.specs.Slot.{slot_in}
use Rattle.scan.proofs.Scan.{Scanned}
use Rattle.scan.proofs.next_run.Given as goal

abbrev pub invariant-loop-x : goal.invariant-loop-x
invariant-loop-x l = Scanned (slot_in l.source) l.from l.w l.a l.e × (l.x ≡ word_from (after (slot_in l.source) l.e) 64 (64 * l.w))

abbrev pub decreases-loop-x : goal.decreases-loop-x
decreases-loop-x l = l.x

abbrev pub invariant-words : goal.invariant-words
invariant-words l = (64 * l.w < l.len) × Scanned (slot_in l.source) l.from l.w l.a l.e × (l.x ≡ word_from (after (slot_in l.source) l.e) 64 (64 * l.w))

abbrev pub decreases-words : goal.decreases-words
decreases-words l = l.len - 64 * l.w
