-- `content::numbers::turned` meets its contract. Assumes nothing.
use Rattle.content.proofs.SignLaws.{cut}
use Rattle.content.proofs.numbers.turned.Goals as goal

pub returns : goal.returns
returns g c = rw (c.wide.ensures, c.low.ensures, c.sign.ensures) (cut _ g.met.N.Number.width _)
