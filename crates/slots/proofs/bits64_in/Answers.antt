-- `slots::bits64_in` meets its contract, by the law of bits that start within a byte. Assumes nothing.
use native.Mathlib.Omega.{arith}
use Rattle.format.proofs.WordLaws.{bits_at}
use Rattle.slots.proofs.bits64_in.Goals as goal

pub returns : goal.returns
returns c = bits_at _ 64 _ _ _ (omega arith) (omega arith) c.from.ensures c.load_in.ensures
