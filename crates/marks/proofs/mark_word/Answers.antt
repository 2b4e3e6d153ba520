-- `marks::mark_word` meets its contract. Assumes nothing.
use mathlib.Core.Path.{ap}
use native.Mathlib.Omega.{arith}
use lib.Bits.{bit_or}
use Rattle.marks.proofs.Tests.{ones_above}
use Rattle.marks.proofs.Marking.{marked-word}
use Rattle.marks.proofs.mark_word.Goals as goal

pub overflow_sub-ones : goal.overflow_sub-ones
overflow_sub-ones c = (ones_above c.args.from c.args.to (omega arith) (omega arith)).0

pub returns : goal.returns
returns c =
    let a = c.args in
    let g = c.get in
    marked-word 8 a.j a.from a.to _ g.result (omega arith) (omega arith) (omega arith) g.ensures.bytes
    (ap (bit_or g.result) (ones_above a.from a.to (omega arith) (omega arith)).1) c.put.ensures
