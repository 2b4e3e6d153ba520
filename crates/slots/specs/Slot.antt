-- The slots of a source, which holds its bytes and the places of its bits. Assumes nothing.
use Rattle.std.specs.Prelude.{ℕ, Bool}
use Rattle.slots.specs.Source.{slot_of}
use Rattle.slots.specs.declared.Source.{Source}

-- slot i of a source is picked
abbrev pub slot_in : Source → ℕ → Bool
slot_in source = slot_of source.bytes.now source.bits
