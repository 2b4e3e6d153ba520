-- What the loop of `Levels::word_chain` keeps: of all rows' spans, `sum` lacks those of the rows that are left. Assumes nothing.
use Rattle.std.proofs.Common.{◌≡◌, ◌+◌}
use Rattle.format.specs.Node.{rows}
use Rattle.format.specs.Rows.{set_rows, Below}
use Rattle.spans.specs.Spans.{spans}
use Rattle.list_counts.specs.Chains.{followed}
use Rattle.list_counts.proofs.chain.Levels.word_chain.Given as goal

abbrev pub invariant-loop-from : goal.invariant-loop-from
invariant-loop-from l =
    let it = l.from-iterator in
    let b = l.self.bytes.now in
    Below (rows b 0) (set_rows it.base it.rest)
    × (l.sum + spans (followed b l.self.offsets l.self.depth) (set_rows it.base it.rest) ≡ spans (followed b l.self.offsets l.self.depth) (set_rows l.base l.word))
