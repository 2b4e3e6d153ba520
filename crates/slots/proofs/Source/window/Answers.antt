-- `slots::Source::window` meets its contract: the first n of 64 bits, which are slots. Assumes nothing.
use mathlib.Core.Path.{◌≡◌, ◌∙◌}
use native.Mathlib.Omega.{arith}
use lib.Pow.{pow_pos}
use Rattle.format.proofs.WordLaws.{one_shl}
use Rattle.slots.proofs.Reading.{word-full, first-slots}
use Rattle.slots.proofs.Source.window.Goals as goal

pub nonzero_rem-result : goal.nonzero_rem-result
nonzero_rem-result c = rw (one_shl c.args.n 64 c.if-n-lt64.true) (pow_pos _)

pub returns-then-n-lt64 : goal.returns-then-n-lt64
returns-then-n-lt64 c =
    let a = c.args in
    rw (one_shl a.n 64 c.if-n-lt64.true, c.both64-x.ensures)
    (first-slots _ 64 a.n a.i (omega arith) ∙ word-full a.self.bytes.now a.self.bits a.n a.i (omega arith))

pub returns-else-n-lt64 : goal.returns-else-n-lt64
returns-else-n-lt64 c =
    let a = c.args in
    let n : a.n ≡ 64 = omega arith in
    rw n (c.both64-x.ensures ∙ word-full a.self.bytes.now a.self.bits 64 a.i (omega arith))
