-- `slots::Source::window_in` meets its contract: the first n of 64 slots. Assumes nothing.
use native.Mathlib.Omega.{arith}
use lib.Pow.{pow_pos}
use Rattle.format.proofs.WordLaws.{one_shl}
use Rattle.slots.proofs.Reading.{first-slots}
use Rattle.slots.proofs.Source.window_in.Goals as goal

pub nonzero_rem-result : goal.nonzero_rem-result
nonzero_rem-result c = rw (one_shl _ 64 c.requires.1) (pow_pos _)

pub returns : goal.returns
returns c =
    let a = c.args in
    rw (one_shl a.n 64 c.requires.1, c.slots64_in.ensures) (first-slots _ 64 a.n a.i (omega arith))
