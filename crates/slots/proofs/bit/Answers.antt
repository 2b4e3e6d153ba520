-- `slots::bit` meets its contract: the code is the definition. Assumes nothing.
use Rattle.format.specs.Bytes.{bit_in}
use Rattle.slots.proofs.bit.Goals as goal

pub returns : goal.returns
unfolding bit_in
returns c = rw c.byte.ensures
