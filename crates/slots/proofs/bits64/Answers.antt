-- `slots::bits64` meets its contract, by the law of bits that start within a byte. Assumes nothing.
use mathlib.Core.Path.{◌∙◌}
use native.Mathlib.Omega.{arith}
use Rattle.format.proofs.WordLaws.{bits_at}
use Rattle.slots.proofs.bits64.Goals as goal

pub returns : goal.returns
returns c = bits_at _ 64 _ _ _ (omega arith) (omega arith) (c.from.ensures ∙ c.byte.ensures) c.load.ensures
