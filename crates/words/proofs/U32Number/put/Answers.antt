-- `put` of a u32 meets its contract. Assumes nothing.
use Rattle.std.proofs.Common.{◌∙◌}
use Rattle.format.proofs.Put.{named}
use Rattle.words.proofs.Bytes.{to_4}
use Rattle.words.proofs.U32Number.put.Goals as goal

pub returns : goal.returns
returns c = named c.put_array.ensures (c.to_le_bytes.ensures ∙ to_4 _)
