-- What the loop of `runs::bad_runs_of` keeps. Assumes nothing.
use Rattle.std.proofs.Common.{suc}
use Rattle.format.specs.Bytes.{any_below}
use Rattle.content.proofs.SignLaws.{Flagged, sinks}
use Rattle.content.proofs.runs.bad_runs_of.Given as goal

abbrev pub invariant-loop-i : goal.invariant-loop-i
invariant-loop-i g l = let w = g.N.Number.WIDTH in Flagged w l.s l.at (any_below (sinks w l.s l.at) (suc l.i)) l.bad l.i
