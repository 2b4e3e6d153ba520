-- What the loops of `blank_end` keep, and their measures. Assumes nothing.
use Rattle.std.proofs.Common.{◌-◌, ◌*◌}
use Rattle.slots.specs.Slot.{slot_in}
use Rattle.scan.specs.Asked.{Blank}
use Rattle.scan.proofs.blank_end.Given as goal

abbrev pub invariant-loop-w : goal.invariant-loop-w
invariant-loop-w l = Blank (slot_in l.source) l.from l.bits.len l.w

abbrev pub decreases-loop-w : goal.decreases-loop-w
decreases-loop-w l = l.bits.len - 64 * l.w
