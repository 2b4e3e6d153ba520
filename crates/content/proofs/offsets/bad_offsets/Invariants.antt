-- What the loop of `offsets::bad_offsets` keeps. Assumes nothing.
use Rattle.std.proofs.Common.{◌||◌}
use Rattle.format.specs.Bytes.{any_below, negative}
use Rattle.content.specs.Numbers.{falls, number}
use Rattle.content.proofs.SignLaws.{Flagged}
use Rattle.content.proofs.offsets.bad_offsets.Given as goal

abbrev pub invariant-loop-i : goal.invariant-loop-i
invariant-loop-i g l = let w = g.N.Number.WIDTH in Flagged w l.s l.at (negative w (number w l.s l.at 0) || any_below (falls w l.s l.at) l.i) l.bad l.i
