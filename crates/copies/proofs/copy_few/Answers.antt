-- `copies::copy_few` meets its contract: where there are no bytes, none are written. Assumes nothing.
use Rattle.std.proofs.Common.{refl}
use Rattle.format.proofs.Numbers.{bytes-none}
use Rattle.format.proofs.Put.{none}
use Rattle.copies.proofs.copy_few.Goals as goal

pub returns-in-0 : goal.returns-in-0
returns-in-0 c = none (bytes-none _ _ _ c.in-0.is) refl
