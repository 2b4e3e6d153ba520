-- `content::offsets::bad_offsets` meets its contract: bad gathers the first number's sign and the falls below i. Assumes nothing.
use Rattle.std.proofs.Common.{refl, arith}
use Rattle.content.proofs.SignLaws.{falls-more, falls-start, offsets-are}
use Rattle.content.proofs.offsets.bad_offsets.Goals as goal

pub loop-i-init : goal.loop-i-init
loop-i-init g c = rw c.sign.ensures (falls-start _ g.met.N.Number.width _ _ _ c.nth.ensures.value)

pub loop-i-preserved : goal.loop-i-preserved
loop-i-preserved g c = falls-more _ g.met.N.Number.width _ _ _ _ _ _ _ _ _ refl c.nth-low.ensures.value c.nth-high.ensures.value c.nth-high.ensures.fits c.turned.ensures c.turned-in-loop-i.ensures c.loop-i.invariant

pub returns : goal.returns
returns g c = rw c.from.ensures (offsets-are _ _ _ _ _ _ _ c.loop-i.invariant (omega arith) c.nth-last.ensures.value)
