-- `content::lists::bad_lists` meets its contract: the signs and bad gather the views below i. Assumes nothing.
use Rattle.std.proofs.Common.{◌≡◌, ◌∙◌, refl, arith}
use Rattle.content.proofs.SignLaws.{joined-more, joined-start}
use Rattle.content.proofs.lists.bad_lists.Goals as goal

pub loop-i-init : goal.loop-i-init
loop-i-init g c = joined-start _ g.met.N.Number.width _ _ _ _ _ c.low-signs.ensures

pub loop-i-preserved : goal.loop-i-preserved
loop-i-preserved g c =
    let offset = c.nth-offset.ensures in
    let size = c.nth-size.ensures in
    rw c.from.ensures
    (joined-more _ g.met.N.Number.width _ _ _ _ _ _ _ _ _ _ _ _ refl offset.value offset.fits size.value size.fits (c.wide-end.ensures ∙ c.low.ensures) (rw c.wide.ensures at c.low-signs-in-loop-i.ensures) c.loop-i.invariant)

pub returns : goal.returns
returns g c =
    let all : c.args.n ≡ c.loop-i.i = omega arith in
    rw (c.sign.ensures, c.wide-2.ensures, all) c.loop-i.invariant.is
