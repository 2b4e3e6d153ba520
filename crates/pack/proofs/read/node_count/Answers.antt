-- `pack::read::node_count` meets its contract. Assumes nothing.
use Rattle.pack.specs.declared.Trailer.{Trailer}
use mathlib.Core.Path.{ap}
use Rattle.pack.proofs.read.node_count.Goals as goal

pub returns : goal.returns
returns c = ap (λ (t : Trailer). t.node_count) c.trailer_of.ensures
