-- `list_columns::Lists::size` meets its contract: two offsets where the bit is 1. Assumes nothing.
use Rattle.std.proofs.Common.{◌≡◌, ◌+◌, ◌*◌, sym, ◌∙◌}
use Rattle.format.specs.Bytes.{le}
use Rattle.list_columns.proofs.SpanLaws.{span-order, span-is, size-null}
use Rattle.list_columns.proofs.Lists.size.Given.{Over}
use Rattle.list_columns.proofs.Lists.size.Goals as goal
use Rattle.list_columns.proofs.Lists.size.Goals.{After-wide-high}

-- the two offsets
module _ (g : Over) (c : After-wide-high g) where
  low-is : c.wide-low.result ≡ le g.N.Number.WIDTH c.args.self.now.src.now (c.args.self.now.first + g.N.Number.WIDTH * c.args.row)
  low-is = c.wide-low.ensures ∙ rw c.WIDTH.ensures at c.get.ensures.value

  high_is : c.wide-high.result ≡ le g.N.Number.WIDTH c.args.self.now.src.now (c.args.self.now.first + g.N.Number.WIDTH * c.args.row + g.N.Number.WIDTH)
  high_is = c.wide-high.ensures ∙ rw (c.WIDTH-then-bit.ensures, c.WIDTH-then-bit-2.ensures) at c.get-then-bit.ensures.value

pub overflow_sub-result : goal.overflow_sub-result
overflow_sub-result g c = span-order c.requires (low-is g c) (high_is g c)

pub returns-then-bit : goal.returns-then-bit
returns-then-bit g c = span-is c.requires (low-is g c) (high_is g c) (sym c.bit.ensures ∙ c.if-bit.true)

pub returns : goal.returns
returns g c = sym (size-null _ _ _ _ _ (sym c.bit.ensures ∙ c.if-bit.false))
