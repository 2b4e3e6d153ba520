-- What the loop of `KeptRuns::next` keeps: of the rows passed, those of the run so far are kept, and those before it dropped. Assumes nothing.
use Prim.Native.Nat.{◌-◌}
use mathlib.Core.Path.{◌≡◌}
use Rattle.stretches.specs.Stretches.{kept_in}
use Rattle.stretches.proofs.KeptLaws.{Looking, Gone}
use Rattle.stretches.proofs.kept.KeptRunsIterator.next.Given as goal

abbrev pub invariant-loop-self : goal.invariant-loop-self
invariant-loop-self l =
    Gone l.initial.self l.self × (l.self.at ≡ l.to) × Looking (kept_in l.initial.self.stretches.counted l.initial.self.node) l.initial.self.at l.from l.to

abbrev pub decreases-loop-self : goal.decreases-loop-self
decreases-loop-self l = l.self.len - l.self.at
