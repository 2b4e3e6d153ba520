-- `marks::set_ones` meets its contract. Assumes nothing.
use Prim.Native.Nat.{◌-◌, ◌*◌, ◌/◌, ◌%◌, ◌≤◌}
use mathlib.Core.Bool.{and-eq-true_iff}
use native.Mathlib.Omega.{arith}
use borrow.Author.Tests.{leb-true, ltb-true}
use Rattle.marks.proofs.Tests.{within_none}
use Rattle.marks.proofs.Marking.{marked-none, marked-range}
use Rattle.marks.proofs.set_ones.Goals as goal

pub returns-then-lo-hi : goal.returns-then-lo-hi
returns-then-lo-hi c = marked-none (λ k. within_none c.args.lo c.args.hi k (omega arith))

pub mark_word-requires : goal.mark_word-requires
mark_word-requires c =
    let a = c.args in
    let start : a.lo % 64 ≤ a.hi - 8 * (a.lo / 64 * 8) = omega arith in
    let both = (and-eq-true_iff _ _).0 c.if-to-j.true in
    (leb-true _ _ both.1, start, ltb-true _ _ both.0)

pub returns-then-to-j : goal.returns-then-to-j
returns-then-to-j c =
    let a = c.args in
    marked-range a.lo a.hi (omega arith) (omega arith) c.mark_word.ensures
