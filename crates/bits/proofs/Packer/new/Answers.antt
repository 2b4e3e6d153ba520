-- `bits::Packer::new` meets its contract. Assumes nothing.
use mathlib.Core.Path.{refl}
use Rattle.format.specs.Words.{low_bits}
use Rattle.bits.proofs.Packer.new.Goals as goal

pub returns : goal.returns
unfolding low_bits
returns c = refl
