-- `marks::mark_byte` meets its contract. Assumes nothing.
use native.Mathlib.Omega.{arith}
use Rattle.marks.proofs.Tests.{ones_above, ones-byte}
use Rattle.marks.proofs.Marking.{marked-byte}
use Rattle.marks.proofs.mark_byte.Goals as goal

pub overflow_sub-ones : goal.overflow_sub-ones
overflow_sub-ones c = (ones_above c.args.from c.args.to (omega arith) (omega arith)).0

pub overflow_cast-s : goal.overflow_cast-s
overflow_cast-s c =
    let a = c.args in
    omega (arith, (ones_above a.from a.to (omega arith) (omega arith)).1, ones-byte a.from a.to (omega arith))

pub returns : goal.returns
returns c =
    let a = c.args in
    marked-byte a.s.now a.j a.from a.to _ (omega arith) (omega arith) (omega arith) (ones_above a.from a.to (omega arith) (omega arith)).1
