-- `buffers::put_texts` meets its contract: padding, then the buffer. Assumes nothing.
use mathlib.Core.Path.{refl}
use Rattle.buffers.proofs.PutLaws.{puts-bytes}
use Rattle.buffers.proofs.put_texts.Goals as goal

pub returns : goal.returns
returns c = puts-bytes refl c.pad-start.ensures c.filter_texts-next.ensures
