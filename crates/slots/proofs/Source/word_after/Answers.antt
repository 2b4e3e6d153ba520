-- `slots::Source::word_after` meets its contract: the bits below `from` are shifted out and back. Assumes nothing.
use Prim.Native.Nat.{◌+◌, ◌*◌, ◌/◌, ◌%◌}
use mathlib.Core.Path.{◌≡◌}
use native.Mathlib.Omega.{arith}
use Rattle.format.proofs.WordLaws.{from-clear}
use Rattle.slots.specs.Source.{slot_of}
use Rattle.slots.proofs.Source.word_after.Goals as goal

pub returns : goal.returns
returns c =
    let a = c.args in
    let at : 64 * (a.from / 64) + a.from % 64 ≡ a.from = omega arith in
    rw c.word.ensures (rw at at (from-clear (slot_of a.self.bytes.now a.self.bits) 64 (64 * (a.from / 64)) (a.from % 64) (omega arith)))
