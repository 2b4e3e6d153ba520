-- What the loop of `count_spans` keeps: n is what the picked valid rows of the words that were given span. Assumes nothing.
use Prim.Native.Nat.{◌*◌}
use mathlib.Core.Path.{◌≡◌}
use Rattle.format.specs.Bytes.{chosen}
use Rattle.spans.specs.Spans.{offset_from, spans}
use Rattle.list_counts.proofs.Counts.{counted}
use Rattle.list_counts.proofs.count_spans.Given as goal

abbrev pub invariant-loop-base : goal.invariant-loop-base
invariant-loop-base l =
    let it = l.base-iterator in
    let list = l.list in
    (it.source ≡ l.source)
    × (l.n ≡ spans (offset_from list.width list.journal.now.bytes.now list.first) (chosen (counted l.source.bytes.now l.source.bits list.journal.now.bytes.now list.node) (64 * it.at)))
