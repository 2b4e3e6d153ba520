-- What the loop of `runs_byte` keeps: the byte has the runs before r, and run r starts at lo. Assumes nothing.
use Prim.Native.Nat.{◌-◌}
use mathlib.Core.Path.{◌≡◌}
use Rattle.format.specs.Slots.{word_from}
use Rattle.nesting.specs.Rows.{hands_on, picks_in, edge}
use Rattle.run_marks.proofs.runs_byte.Given as goal

abbrev pub invariant-loop-r : goal.invariant-loop-r
invariant-loop-r l =
    let b = l.runs.journal.now.bytes.now in
    (l.lo ≡ edge b l.runs.node l.source.bits.len l.r) × (l.byte ≡ word_from (hands_on b l.runs.node (picks_in l.source)) (l.r - l.from) l.from)
