-- `nesting::edges::Runs::picked` meets its contract: each run is the range from the run before it. Assumes nothing.
use Prim.Native.Nat.{suc}
use mathlib.Core.Path.{◌≡◌, ap, ◌∙◌}
use native.Mathlib.Omega.{arith}
use lib.ListN.{length}
use Rattle.format.specs.Node.{rows}
use Rattle.nesting.proofs.Sieve.{byte_small, count-more, count_none}
use Rattle.nesting.proofs.RunEdges.{edge-first, edge-last, edge-rises, kept-picked}
use Rattle.nesting.proofs.edges.Runs.picked.Goals as goal

pub loop-j-init : goal.loop-j-init
loop-j-init c = (omega arith, edge-first _ _ _, count_none _)

-- the run does not end before it starts, nor past the last slot
pub any_within-requires : goal.any_within-requires
any_within-requires c =
    let l = c.loop-j in
    (rw (c.end_edge-hi.ensures, l.invariant.1) (edge-rises c.args.self.at _ l.j (omega arith)), rw c.end_edge-hi.ensures (edge-last _ _ _ _))

pub loop-j-preserved : goal.loop-j-preserved
loop-j-preserved c =
    let l = c.loop-j in
    let e = c.end_edge-hi.ensures in
    (omega (arith, c.from-n.ensures, byte_small c.any_within.result), e, rw c.from-n.ensures (count-more _ l.j l.invariant.2 (rw (l.invariant.1, e) at c.any_within.ensures)))

pub returns : goal.returns
returns c =
    let l = c.loop-j in
    let s = c.args.source in
    let e : l.j ≡ rows c.args.self.journal.now.bytes.now (suc c.args.self.node) = omega arith in
    rw e at l.invariant.2 ∙ ap length (kept-picked c.args.self.at c.requires s.bytes.now s.bits)
