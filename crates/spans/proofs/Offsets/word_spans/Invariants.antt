-- What the loop of `Offsets::word_spans` keeps: of all rows' spans, `n` lacks those of the rows that are left. Assumes nothing.
use Rattle.std.proofs.Common.{◌≡◌, ◌+◌}
use Rattle.format.specs.Rows.{set_rows}
use Rattle.spans.specs.Spans.{offset_from, spans, Rising}
use Rattle.spans.proofs.Offsets.word_spans.Given as goal

abbrev pub invariant-loop-from : goal.invariant-loop-from
invariant-loop-from l =
    let it = l.from-iterator in
    Rising l.self.width l.bytes l.self.first (set_rows it.base it.rest)
    × (l.n + spans (offset_from l.self.width l.bytes l.self.first) (set_rows it.base it.rest) ≡ spans (offset_from l.self.width l.bytes l.self.first) (set_rows l.base l.word))
