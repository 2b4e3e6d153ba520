-- `put` of a u64 meets its contract. Assumes nothing.
use Rattle.std.proofs.Common.{◌∙◌}
use Rattle.format.proofs.Put.{named}
use Rattle.words.proofs.Bytes.{to_8}
use Rattle.words.proofs.U64Number.put.Goals as goal

pub returns : goal.returns
returns c = named c.put_array.ensures (c.to_le_bytes.ensures ∙ to_8 _)
