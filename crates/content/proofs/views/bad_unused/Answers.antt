-- `content::views::bad_unused` meets its contract. Assumes nothing.
use Rattle.std.proofs.Common.{refl, arith}
use Rattle.content.proofs.ViewLaws.{unused-is}
use Rattle.content.proofs.views.bad_unused.Goals as goal

pub returns : goal.returns
returns c =
    let g = c.before in
    let s = g.before.before in
    unused-is _ (λ i. omega (arith, c.type_inv.s i)) _ _ _ _ _ _ g.get-front.ensures.value g.get-back.ensures.value s.requires.1 (rw c.min.ensures at c.from-few.ensures) refl
