-- `slots::bits57_in` meets its contract: what is left of the word of bits at k's byte. Assumes nothing.
use Prim.Native.Nat.{◌*◌, ◌/◌, ◌%◌}
use native.Mathlib.Omega.{arith}
use Rattle.slots.proofs.Reading.{word-rest}
use Rattle.slots.proofs.bits57_in.Goals as goal

pub returns : goal.returns
returns c =
    let k = c.args.k in
    word-rest _ 64 (k % 8) (8 * (k / 8)) k _ (omega arith) (omega arith) c.load_in.ensures
