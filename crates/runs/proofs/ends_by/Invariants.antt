-- What the loop of `ends_by` keeps: the ends of the first j groups are written, and lo is where run j starts among the rows. Assumes nothing.
use Prim.Native.Nat.{◌-◌, ◌≤◌, min}
use mathlib.Core.Path.{◌≡◌}
use Rattle.predicate.specs.Selection.{selected}
use Rattle.runs.specs.Groups.{start_at}
use Rattle.runs.specs.Ends.{sizes}
use Rattle.runs.proofs.GroupLaws.{Grouped}
use Rattle.runs.proofs.ends_by.Given as goal

abbrev pub invariant-loop-j : goal.invariant-loop-j
invariant-loop-j g l = record {
  few : l.kept ≤ l.lo;
  starts : l.lo ≡ min (start_at l.runs.width l.runs.bytes.now l.runs.first l.j - l.runs.skip) l.len;
  grouped : Grouped l.runs.width (sizes l.runs (selected l.sel)) l.initial.out l.at l.j l.kept l.out l.here;
}
