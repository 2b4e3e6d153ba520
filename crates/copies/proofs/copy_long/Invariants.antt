-- What the loop of `copy_long` keeps: the first 32 i bytes are written. Assumes nothing.
use Rattle.std.proofs.Common.{◌+◌, ◌*◌}
use Rattle.format.specs.Bytes.{bytes_at}
use Rattle.format.specs.Put.{Wrote}
use Rattle.copies.proofs.copy_long.Given as goal

abbrev pub invariant-loop-i : goal.invariant-loop-i
invariant-loop-i l = Wrote l.initial.out l.at (bytes_at l.src l.from (32 * l.i)) l.out (l.at + 32 * l.i)
