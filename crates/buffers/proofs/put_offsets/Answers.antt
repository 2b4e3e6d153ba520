-- `buffers::put_offsets` meets its contract: padding, then the buffer. Assumes nothing.
use mathlib.Core.Path.{refl}
use Rattle.buffers.proofs.PutLaws.{puts-bytes}
use Rattle.buffers.proofs.put_offsets.Goals as goal

pub returns : goal.returns
returns g c = puts-bytes refl c.pad-start.ensures c.filter_offsets-next.ensures.wrote
