-- What the loop of `bytes_at_root` keeps: n is what the picked rows of the words that were given span. Assumes nothing.
use Rattle.std.proofs.Common.{◌≡◌, ◌*◌}
use Rattle.format.specs.Bytes.{chosen}
use Rattle.slots.specs.Slot.{slot_in}
use Rattle.spans.specs.Spans.{offset_from, spans}
use Rattle.kept_data.proofs.root.bytes_at_root.Given as goal

abbrev pub invariant-loop-base : goal.invariant-loop-base
invariant-loop-base l =
    let it = l.base-iterator in
    (it.source ≡ l.counted.source)
    × (l.n ≡ spans (offset_from l.offsets.width l.counted.journal.now.bytes.now l.offsets.first) (chosen (slot_in l.counted.source) (64 * it.at)))
