-- What the loops of `next_row` keep, and their measures. Assumes nothing.
use Rattle.std.proofs.Common.{◌≡◌, ◌-◌, ◌*◌, ◌<◌}
use Rattle.format.specs.Slots.{word_from, after}
use Rattle.slots.specs.Slot.{slot_in}
use Rattle.scan.proofs.Scan.{Scanned}
use Rattle.scan.proofs.next_row.Given as goal

abbrev pub invariant-loop-x : goal.invariant-loop-x
invariant-loop-x l = (64 * l.w < l.end) × Scanned (slot_in l.source) l.from l.w l.from l.from × (l.x ≡ word_from (after (slot_in l.source) l.from) 64 (64 * l.w))

abbrev pub decreases-loop-x : goal.decreases-loop-x
decreases-loop-x l = l.end - 64 * l.w
