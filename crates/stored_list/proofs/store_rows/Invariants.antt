-- What the loops of `store_rows` keep: what is left to store are the picks from word w on. Assumes nothing.
use Rattle.std.proofs.Common.{◌*◌}
use Rattle.format.specs.Slots.{picks_from}
use Rattle.format.proofs.Put.{Left}
use Rattle.slots.specs.Slot.{slot_in}
use Rattle.predicate.specs.Blocks.{picks_on}
use Rattle.stored_list.proofs.store_rows.Given as goal

abbrev pub invariant-loop-w : goal.invariant-loop-w
invariant-loop-w l =
    let p = slot_in l.source in
    Left l.initial.list 0 (picks_from p l.source.bits.len 0) l.list l.here (picks_on p l.source.bits.len (64 * l.w))

abbrev pub invariant-loop-w-2 : goal.invariant-loop-w-2
invariant-loop-w-2 l =
    let p = slot_in l.source in
    Left l.fn.list 0 (picks_from p l.source.bits.len 0) l.list l.here (picks_on p l.source.bits.len (64 * l.w))
