-- What the loop of `count_words` keeps: the picked slots of the words before w are counted. Assumes nothing.
use Rattle.slots.specs.Source.{slot_of}
use Rattle.slots.proofs.Counting.{Counted}
use Rattle.slots.proofs.Source.count_words.Given as goal

abbrev pub invariant-loop-w : goal.invariant-loop-w
invariant-loop-w l = Counted (slot_of l.self.bytes.now l.self.bits) l.set l.w
