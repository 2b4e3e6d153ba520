-- What the loop of `edges::Runs::picked` keeps: n counts the kept runs below j, and run j starts at lo. Assumes nothing.
use Prim.Native.Nat.{◌≤◌}
use mathlib.Core.Path.{◌≡◌}
use lib.ListN.{length}
use Rattle.format.specs.Bytes.{chosen}
use Rattle.nesting.specs.Rows.{edge}
use Rattle.nesting.proofs.RunEdges.{run_picked}
use Rattle.nesting.proofs.edges.Runs.picked.Given as goal

abbrev pub invariant-loop-j : goal.invariant-loop-j
invariant-loop-j l =
    let b = l.self.journal.now.bytes.now in
    (l.n ≤ l.j) × (l.lo ≡ edge b l.self.node l.source.bits.len l.j) × (l.n ≡ length (chosen (run_picked b l.self.node l.source.bytes.now l.source.bits) l.j))
