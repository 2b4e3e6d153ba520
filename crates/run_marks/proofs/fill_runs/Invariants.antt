-- What the loop of `fill_runs` keeps: the bytes before byte `place` are written, and the next run starts at lo. Assumes nothing.
use Prim.Native.Nat.{suc, ◌*◌, min}
use mathlib.Core.Path.{◌≡◌}
use Rattle.format.specs.Node.{rows}
use Rattle.nesting.specs.Rows.{hands_on, picks_in, edge}
use Rattle.run_marks.proofs.Packing.{Bytes}
use Rattle.run_marks.proofs.fill_runs.Given as goal

abbrev pub invariant-loop-place : goal.invariant-loop-place
invariant-loop-place l =
    let b = l.runs.journal.now.bytes.now in
    (l.lo ≡ edge b l.runs.node l.source.bits.len (min l.count (8 * l.place)))
    × Bytes (hands_on b l.runs.node (picks_in l.source)) (rows b (suc l.runs.node)) l.initial.region l.region l.place
