-- `slots::Source::window57_in` meets its contract: the first n of what one word has. Assumes nothing.
use native.Mathlib.Omega.{arith}
use lib.Pow.{pow_pos}
use Rattle.format.proofs.WordLaws.{one_shl}
use Rattle.slots.proofs.Reading.{first-slots}
use Rattle.slots.proofs.Source.window57_in.Goals as goal

pub nonzero_rem-result : goal.nonzero_rem-result
nonzero_rem-result c = rw (one_shl c.args.n 64 (omega arith)) (pow_pos _)

pub returns : goal.returns
returns c =
    let a = c.args in
    rw (one_shl a.n 64 (omega arith), c.slots57_in.ensures) (first-slots _ _ a.n a.i (omega arith))
