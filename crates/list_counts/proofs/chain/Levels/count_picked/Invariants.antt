-- What the loop of `Levels::count_picked` keeps: sum is what the picked rows of the words that were given span. Assumes nothing.
use Prim.Native.Nat.{◌*◌}
use mathlib.Core.Path.{◌≡◌}
use Rattle.format.specs.Bytes.{chosen}
use Rattle.slots.specs.Slot.{slot_in}
use Rattle.spans.specs.Spans.{spans}
use Rattle.list_counts.specs.Chains.{followed}
use Rattle.list_counts.proofs.chain.Levels.count_picked.Given as goal

abbrev pub invariant-loop-base : goal.invariant-loop-base
invariant-loop-base l =
    let it = l.base-iterator in
    (it.source ≡ l.source) × (l.sum ≡ spans (followed l.self.bytes.now l.self.offsets l.self.depth) (chosen (slot_in l.source) (64 * it.at)))
