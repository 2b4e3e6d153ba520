-- `report::put_text` meets its contract: the whole of a text is its part of that length. Assumes nothing.
use lib.Seq.{take-length}
use Rattle.format.specs.Bytes.{bytes_at}
use Rattle.format.proofs.Put.{named}
use Rattle.report.proofs.put_text.Goals as goal

pub returns : goal.returns
unfolding bytes_at
returns c = named c.copy.ensures (take-length _)
