-- `scan::any_picked` meets its contract: no slot is picked from the last on, so the search ends there or at hi. Assumes nothing.
use Rattle.std.proofs.Common.{false, ◌∙◌, arith}
use Rattle.format.specs.Slots.{All}
use Rattle.slots.specs.Slot.{slot_in}
use Rattle.slots.proofs.Reading.{slot-past}
use Rattle.scan.proofs.Asked.{any-found}
use Rattle.scan.proofs.any_picked.Goals as goal

pub returns : goal.returns
returns c =
    let a = c.args in
    let past : All (slot_in a.source) false c.min.result a.hi = record { at = λ j l h. slot-past a.source.bytes.now a.source.bits j (omega arith) } in
    c.is_some.ensures ∙ any-found _ a.lo a.hi c.min.result _ c.next_row.ensures (omega arith) past
