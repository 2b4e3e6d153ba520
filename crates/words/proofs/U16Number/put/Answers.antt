-- `put` of a u16 meets its contract. Assumes nothing.
use Rattle.std.proofs.Common.{◌∙◌}
use Rattle.format.proofs.Put.{named}
use Rattle.words.proofs.Bytes.{to_2}
use Rattle.words.proofs.U16Number.put.Goals as goal

pub returns : goal.returns
returns c = named c.put_array.ensures (c.to_le_bytes.ensures ∙ to_2 _)
