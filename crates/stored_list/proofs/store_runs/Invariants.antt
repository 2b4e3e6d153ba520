-- What the loop of `store_runs` keeps: what is left to store are the starts and ends of the runs that are left. Assumes nothing.
use Rattle.std.proofs.Common.{◌^◌, ◌<◌}
use Rattle.format.specs.Slots.{runs_from, starts_and_ends}
use Rattle.format.proofs.Put.{Left}
use Rattle.slots.specs.Slot.{slot_in}
use Rattle.slices.specs.Reader.{runs_left, Stands}
use Rattle.stored_list.proofs.store_runs.Given as goal

abbrev pub invariant-loop-start : goal.invariant-loop-start
invariant-loop-start l =
    let i = l.start-iterator in
    Stands i
    × (i.bits.len < 2 ^ 32)
    × Left l.initial.list 0 (starts_and_ends (runs_from (slot_in l.source) l.source.bits.len 0)) l.list l.here (starts_and_ends (runs_left i))
