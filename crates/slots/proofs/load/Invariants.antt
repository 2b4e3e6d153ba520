-- What the loop of `load` keeps: x holds the bytes from j + t on. Assumes nothing.
use Prim.Native.Nat.{◌+◌, ◌*◌, ◌-◌}
use mathlib.Core.Path.{◌≡◌}
use Rattle.format.specs.Bytes.{bit_in}
use Rattle.format.specs.Slots.{word_from}
use Rattle.slots.proofs.load.Given as goal

abbrev pub invariant-loop-t : goal.invariant-loop-t
invariant-loop-t l = l.x ≡ word_from (bit_in l.s) (8 * (8 - l.t)) (8 * (l.j + l.t))
