-- `fill::clear` meets its contract: a front of zeros, and what stood behind it. Assumes nothing.
use Rattle.fill.proofs.Stored.{zeros-over}
use Rattle.fill.proofs.clear.Goals as goal

pub returns : goal.returns
returns c = zeros-over c.args.n _ c.requires (c.fill.ensures.after (λ y same. same))
