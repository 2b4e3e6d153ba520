-- What the loop of `from_mask::words_ahead` keeps: n words stand at the front. Assumes nothing.
use mathlib.Core.Path.{◌≡◌}
use lib.ListN.{length}
use Rattle.slots.specs.Slot.{slot_in}
use Rattle.columns.specs.Words.{Ahead}
use Rattle.columns.proofs.from_mask.words_ahead.Given as goal

abbrev pub invariant-loop-n : goal.invariant-loop-n
invariant-loop-n l = (length l.words ≡ length l.initial.words) × Ahead (slot_in l.source) l.source.bits.len l.from l.words l.n
