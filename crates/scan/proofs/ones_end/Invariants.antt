-- What the loop of `ones_end` keeps: each word passed is of ones. Assumes nothing.
use Rattle.slots.specs.Slot.{slot_in}
use Rattle.scan.specs.Asked.{Ones}
use Rattle.scan.proofs.ones_end.Given as goal

abbrev pub invariant-loop-w : goal.invariant-loop-w
invariant-loop-w l = Ones (slot_in l.source) l.from l.source.bits.len l.w
