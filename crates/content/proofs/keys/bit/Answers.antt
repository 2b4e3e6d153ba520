-- `content::keys::bit` meets its contract. Assumes nothing.
use Rattle.content.proofs.Tests.{bit_is}
use Rattle.content.proofs.keys.bit.Goals as goal

pub returns : goal.returns
returns c = bit_is _ _ _
