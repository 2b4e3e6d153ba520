-- `list_past` meets its contract. Assumes nothing.
use Rattle.std.proofs.Common.{◌+◌, rules, tests, refl, ltb, arith}
use Rattle.std.proofs.lemmas.Iterator.{YieldsList-from_range}
use Rattle.std.proofs.lemmas.Iterator.Search.{find_from_yields_List}
use Rattle.format.specs.Node.{first_number}
use Rattle.stretches.proofs.Searching.{sought}
use Rattle.stretches.proofs.Places.{past-found}
use Rattle.stretches.proofs.parts.list_past.Goals as goal

pub returns : goal.returns
returns c =
    let l = c.args.list in
    let found = find_from_yields_List (λ k. ltb c.args.x (first_number l.width l.journal.now.bytes.now l.node (k + 1))) _ _ c.find.result c.find.ensures.ran (YieldsList-from_range _ _ _ refl refl) (λ x b q k. search (rules, tests)) in
    rw c.unwrap_or.ensures (past-found l.at c.list_from.ensures c.rows-rows.ensures (sought _ c.list_from.result c.rows-rows.result _ (omega (arith, c.list_from.ensures.high)) found))
