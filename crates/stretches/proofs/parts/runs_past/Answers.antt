-- `runs_past` meets its contract. Assumes nothing.
use Rattle.std.proofs.Common.{◌+◌, ◌-◌, rules, tests, refl, ltb, arith}
use Rattle.std.proofs.lemmas.Iterator.{YieldsList-from_range}
use Rattle.std.proofs.lemmas.Iterator.Search.{find_from_yields_List}
use Rattle.format.specs.Node.{run_end, skip}
use Rattle.stretches.proofs.Searching.{sought}
use Rattle.stretches.proofs.Places.{ended-found}
use Rattle.stretches.proofs.parts.runs_past.Goals as goal

pub returns : goal.returns
returns c =
    let b = c.args.runs.journal.now.bytes.now in
    let i = c.args.runs.node in
    let found = find_from_yields_List (λ j. ltb c.args.x (run_end b i j - skip b i)) _ _ c.find.result c.find.ensures.ran (YieldsList-from_range _ _ _ refl refl) (λ x b q k. search (rules, tests)) in
    rw c.unwrap_or.ensures (ended-found c.count-count.ensures (sought _ (c.args.r + 1) c.count-count.result _ (omega arith) found))
