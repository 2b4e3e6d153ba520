-- `content::numbers::sign` meets its contract. Assumes nothing.
use Rattle.std.proofs.Common.{◌-◌, ◌*◌, arith}
use Rattle.format.proofs.WordLaws.{one_shl}
use Rattle.content.proofs.SignLaws.{width-few, width-some}
use Rattle.content.proofs.numbers.sign.Goals as goal

pub overflow_mul-result : goal.overflow_mul-result
overflow_mul-result g c = omega (arith, width-few _ g.met.N.Number.width)

pub overflow_sub-result : goal.overflow_sub-result
overflow_sub-result g c = omega (arith, width-some _ g.met.N.Number.width)

pub overflow_shl-result : goal.overflow_shl-result
overflow_shl-result g c = omega (arith, width-few _ g.met.N.Number.width, width-some _ g.met.N.Number.width)

pub returns : goal.returns
returns g c = rw c.WIDTH.ensures (one_shl (8 * g.N.Number.WIDTH - 1) 64 (omega (arith, width-few _ g.met.N.Number.width, width-some _ g.met.N.Number.width)))
