-- `stored_list::list_entries` meets its contract: a run has two entries. Assumes nothing.
use Rattle.std.proofs.Common.{sym, arith}
use Rattle.slots.specs.Slot.{slot_in}
use Rattle.slices.proofs.Yields.{few}
use Rattle.stored_list.proofs.Entries.{length-edges}
use Rattle.stored_list.proofs.list_entries.Goals as goal

pub overflow_mul-result : goal.overflow_mul-result
overflow_mul-result c =
    let a = c.args in
    omega (arith, c.count_runs.ensures, few (slot_in a.source) a.source.bits.len 0)

pub returns-in-Slices : goal.returns-in-Slices
returns-in-Slices c = rw c.in-Slices.is (rw c.count_runs.ensures (sym (length-edges _)))
