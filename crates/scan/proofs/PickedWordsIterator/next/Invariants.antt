-- What the loop of `next` of `PickedWords` keeps, and its measure: no slot before word w passes. Assumes nothing.
use Rattle.std.proofs.Common.{◌-◌, ◌≡◌}
use Rattle.slots.specs.Slot.{slot_in}
use Rattle.scan.proofs.Blanks.{Empty}
use Rattle.scan.proofs.PickedWordsIterator.next.Given as goal

abbrev pub invariant-loop-w : goal.invariant-loop-w
invariant-loop-w l = let s = l.initial.self in (l.self ≡ s) × Empty (slot_in s.source) s.at s.source.bits.len l.w

abbrev pub decreases-loop-w : goal.decreases-loop-w
decreases-loop-w l = l.self.source.bits.len - l.w
