-- `append::fields::pad` meets its contract: the zeros up to a multiple of 8. Assumes nothing.
use native.Mathlib.Omega.{arith}
use Rattle.format.proofs.Put.{named}
use Rattle.append.proofs.CellLaws.{gap, padding-zeros, length-padding}
use Rattle.append.proofs.fields.pad.Goals as goal

pub put_zeros-requires : goal.put_zeros-requires
put_zeros-requires c = omega (arith, length-padding c.args.at, gap c.args.at)

pub returns : goal.returns
returns c = named c.put_zeros.ensures (padding-zeros _)
