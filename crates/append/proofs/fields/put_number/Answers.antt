-- `append::fields::put_number` meets its contract. A turn writes the lowest byte of what is left. Assumes nothing.
use Rattle.std.proofs.Common.{ap, arith}
use Rattle.format.specs.Bytes.{to_le}
use Rattle.format.proofs.Numbers.{to_le-none, to_le-more}
use Rattle.format.proofs.Put.{whole, stored, done}
use Rattle.append.proofs.fields.put_number.Goals as goal

pub loop-i-init : goal.loop-i-init
loop-i-init c = whole (omega arith) (ap (λ n. to_le n c.args.x) (omega arith))

pub loop-i-preserved : goal.loop-i-preserved
loop-i-preserved c = stored c.loop-i.invariant (to_le-more _ _ _ (omega arith)) (omega arith)

pub returns : goal.returns
returns c = done c.loop-i.invariant (to_le-none _ _ (omega arith)) (omega arith)
