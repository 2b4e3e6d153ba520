-- `put` of a u8 meets its contract. Assumes nothing.
use Rattle.std.proofs.Common.{refl, div-one, mod-eq_of_lt}
use Rattle.format.specs.Bytes.{to_le, table}
use Rattle.format.proofs.Put.{named}
use Rattle.words.proofs.U8Number.put.Goals as goal

pub returns : goal.returns
unfolding to_le table
returns c = named c.put_array.ensures (rw (div-one, mod-eq_of_lt c.ranges.self.fits) refl)
