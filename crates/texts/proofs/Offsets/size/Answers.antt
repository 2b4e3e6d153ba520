-- `texts::Offsets::size` meets its contract: the difference of two offsets. Assumes nothing.
use Rattle.std.proofs.Common.{◌≡◌, suc, ◌-◌, ◌∙◌, ap₂, arith}
use Rattle.texts.specs.Texts.{offset, size}
use Rattle.texts.proofs.TextLaws.{offset-next}
use Rattle.texts.proofs.Offsets.size.Goals as goal
use Rattle.texts.proofs.Offsets.size.Given.{Over}
use Rattle.texts.proofs.Offsets.size.Goals.{After-wide-high}

module _ (g : Over) (c : After-wide-high g) where
  low-is : c.wide-low.result ≡ offset g.N.Number.WIDTH c.args.self.src.now c.args.self.first c.args.row
  unfolding offset
  low-is = c.wide-low.ensures ∙ rw c.WIDTH.ensures at c.get.ensures.value

  high_is : c.wide-high.result ≡ offset g.N.Number.WIDTH c.args.self.src.now c.args.self.first (suc c.args.row)
  high_is = c.wide-high.ensures ∙ rw (c.WIDTH-2.ensures, c.WIDTH-3.ensures) at c.get-2.ensures.value ∙ offset-next _ _ _ _

pub overflow_sub-result : goal.overflow_sub-result
overflow_sub-result g c = omega (arith, low-is g c, high_is g c, c.requires.row_bound)

pub returns : goal.returns
unfolding size
returns g c = ap₂ ◌-◌ (high_is g c) (low-is g c)
