-- `bitmaps::by_route` meets its contract: it computes what the definition says. Assumes nothing.
use mathlib.Core.Path.{refl}
use Rattle.format.specs.Mask.{by_route}
use Rattle.bitmaps.proofs.by_route.Goals as goal

pub returns : goal.returns
unfolding by_route
returns c = refl
