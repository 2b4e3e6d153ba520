-- `predicate::last_block` meets its contract: what is left of the word gives its rows. Assumes nothing.
use Rattle.std.proofs.Common.{◌+◌, ◌*◌, ◌/◌, ◌≤◌, arith}
use mathlib.Core.Logic.{dite}
use native.Mathlib.Decide.{dec_le}
use Rattle.slots.proofs.Reading.{slot-past}
use Rattle.predicate.proofs.Steps.{word-leaves, last-leaves}
use Rattle.predicate.proofs.last_block.Goals as goal

pub returns : goal.returns
returns c =
    let a = c.args in
    let base = 64 * (a.place / 64) in (
      omega arith,
      dite (dec_le a.source.bits.len (base + 64))
          (λ (l : a.source.bits.len ≤ base + 64). last-leaves _ (slot-past _ _) c.word_after-x.ensures (omega arith) (omega arith) c.requires l (omega arith))
          (λ l. word-leaves _ (slot-past _ _) c.word_after-x.ensures (omega arith) (omega arith) (omega arith) (omega arith)),
    )
