-- What the loop of `fields::put_number` keeps: the number that is left is still to be written, in the bytes that are left. Assumes nothing.
use Rattle.std.proofs.Common.{◌+◌, ◌-◌}
use Rattle.format.specs.Bytes.{to_le}
use Rattle.format.proofs.Put.{Left}
use Rattle.append.proofs.fields.put_number.Given as goal

abbrev pub invariant-loop-i : goal.invariant-loop-i
invariant-loop-i l = Left l.initial.out l.at (to_le l.width l.x) l.out (l.at + l.i) (to_le (l.width - l.i) l.left)
