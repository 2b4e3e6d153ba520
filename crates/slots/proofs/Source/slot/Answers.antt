-- `slots::Source::slot` meets its contract: each return by the bits that were read. Assumes nothing.
use mathlib.Core.Path.{sym, ◌∙◌}
use Rattle.std.proofs.Common.{rules, of_calls}
use Rattle.slots.specs.Source.{both_set}
use Rattle.format.specs.Bytes.{bit_at}
use Rattle.slots.proofs.Reading.{slot_is, slot-past, set-plain, set-valid, set-not}
use Rattle.slots.proofs.Source.slot.Goals as goal

pub returns-then-b-i : goal.returns-then-b-i
returns-then-b-i c = sym (slot-past _ _ _ c.if-b-i.true)

pub returns-then-bit : goal.returns-then-bit
unfolding both_set bit_at
returns-then-bit c = let a = c.args in rw (slot_is a.self.bytes.now a.self.bits a.i c.if-b-i.false, ← c.bit.ensures, c.if-bit.true) (let h = c.is_none_or.ensures in search (rules, of_calls))

pub returns-else-bit : goal.returns-else-bit
returns-else-bit c = c.if-bit.false ∙ sym (slot_is _ _ _ c.if-b-i.false ∙ set-not _ _ _ (sym c.bit.ensures ∙ c.if-bit.false))
