-- What the loop of `compress` keeps. Assumes nothing.
use Prim.Native.Nat.{◌*◌}
use Rattle.bits.proofs.FourLaws.{Gathered}
use Rattle.bits.proofs.compress.Given as goal

abbrev pub invariant-loop-byte : goal.invariant-loop-byte
invariant-loop-byte l = Gathered l.value l.mask (8 * l.byte) l.out
