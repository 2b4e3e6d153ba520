-- `slots::load_in` meets its contract: the word that is read is that of its bits. Assumes nothing.
use mathlib.Core.Path.{◌∙◌}
use native.Mathlib.Omega.{arith}
use Rattle.format.proofs.WordLaws.{from_le}
use Rattle.slots.proofs.load_in.Goals as goal

pub returns : goal.returns
returns c = c.get.ensures.value ∙ from_le _ (λ i. omega (arith, c.shared_slice_known-1.given i)) 8 _
