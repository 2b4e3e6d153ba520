-- `slots::null_count` meets its contract: the rows that are marked, taken from all. Assumes nothing.
use Rattle.std.specs.Prelude.{None}
use mathlib.Core.Path.{refl}
use Rattle.format.proofs.SlotLaws.{count-le}
use Rattle.slots.specs.declared.Bits.{Bits}
use Rattle.slots.proofs.Counting.{null-rows}
use Rattle.slots.proofs.null_count.Goals as goal

pub overflow_sub-result : goal.overflow_sub-result
overflow_sub-result c = rw c.count.ensures (count-le _ c.args.rows 0)

pub returns : goal.returns
returns c =
    let a = c.args in
    let marks : Bits = record { values_at = a.at; validity = None; skip = a.skip; len = a.rows } in
    rw c.count.ensures (null-rows a.s.now marks refl)
