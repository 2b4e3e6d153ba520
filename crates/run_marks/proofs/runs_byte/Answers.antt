-- `run_marks::runs_byte` meets its contract. The loop's invariant: the byte has the runs before r, and run r starts at lo. Assumes nothing.
use Prim.Native.Nat.{◌+◌, ◌*◌, ◌%◌, ◌^◌, ◌-◌}
use mathlib.Core.Path.{◌≡◌}
use native.Mathlib.Omega.{arith}
use Rattle.format.specs.Slots.{word_from}
use Rattle.nesting.specs.Rows.{hands_on, picks_in}
use Rattle.nesting.proofs.RunEdges.{edge-last}
use Rattle.run_marks.proofs.Packing.{word_none, word_byte, word_next}
use Rattle.run_marks.proofs.RunBits.{range-order, run-handed}
use Rattle.run_marks.proofs.runs_byte.Goals as goal
use Rattle.run_marks.proofs.runs_byte.Goals.{After-from}

pub loop-r-init : goal.loop-r-init
loop-r-init c = (c.requires.start_value, word_none _ _)

-- the run does not end before it starts, nor past the last slot
pub any_within-requires : goal.any_within-requires
any_within-requires c =
    let l = c.loop-r in
    (range-order c.args.runs.at l.r (omega arith) _ l.invariant.0 c.end_edge-hi.ensures, rw c.end_edge-hi.ensures (edge-last _ _ _ _))

-- its bit is the next one
added : (c : After-from) →
    let l = c.loop-r in
    let a = c.args in
    l.byte + c.from.result * 2 ^ (l.r - a.from) % 256 ≡ word_from (hands_on a.runs.journal.now.bytes.now a.runs.node (picks_in a.source)) (l.r + 1 - a.from) a.from
added c =
    let a = c.args in
    let l = c.loop-r in
    let some = c.any_within.result in
    let k = run-handed a.runs.at l.r (omega arith) a.source.bytes.now a.source.bits l.invariant.0 c.end_edge-hi.ensures some c.any_within.ensures in
    rw c.from.ensures (word_next _ a.from l.r l.byte some (omega arith) (omega arith) l.invariant.1 k)

pub overflow_add-byte : goal.overflow_add-byte
overflow_add-byte c =
    let l = c.loop-r in
    let from = c.args.from in
    omega (arith, word_byte _ (l.r + 1 - from) from _ (added c) (omega arith))

pub loop-r-preserved : goal.loop-r-preserved
loop-r-preserved c = (c.end_edge-hi.ensures, added (goal.at.loop-r-preserved c).After-from)

pub returns : goal.returns
returns c = let l = c.loop-r in
    let e : l.r ≡ c.args.to = omega arith in
    record { byte_value = rw e at l.invariant.1; next_value = rw e at l.invariant.0 }
