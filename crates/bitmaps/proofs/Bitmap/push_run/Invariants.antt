-- What the loop of `push_run` keeps. Assumes nothing.
use Prim.Native.Nat.{◌*◌}
use Rattle.format.specs.Slots.{count_up}
use Rattle.bitmaps.specs.Push.{Adds, bits_of}
use Rattle.bitmaps.proofs.Bitmap.push_run.Given as goal

abbrev pub invariant-loop-word : goal.invariant-loop-word
invariant-loop-word l = Adds (bits_of l.column (count_up (64 * l.word) l.start)) l.initial.self l.self
