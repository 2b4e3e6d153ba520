-- `valid_to` meets its contract. Assumes nothing.
use Rattle.std.proofs.Common.{not, rules, tests, refl, sym, ◌∙◌}
use Rattle.std.proofs.lemmas.Iterator.{YieldsList-from_range}
use Rattle.std.proofs.lemmas.Iterator.Search.{find_from_yields_List}
use Rattle.format.specs.Node.{valid}
use Rattle.nesting.proofs.ListAt.{valid-none}
use Rattle.stretches.proofs.Searching.{sought}
use Rattle.stretches.proofs.Places.{valid-found, valid_all}
use Rattle.stretches.proofs.parts.valid_to.Goals as goal

pub returns : goal.returns
returns c =
    let l = c.args.list in
    let found = find_from_yields_List (λ k. not (valid l.journal.now.bytes.now l.node k)) _ _ c.find.result c.find.ensures.ran (YieldsList-from_range _ _ _ refl refl) (λ x b q k. search (rules, tests)) in
    rw c.unwrap_or.ensures (valid-found (sought _ c.args.q c.args.end _ c.requires.0 found))

pub returns-then-bare : goal.returns-then-bare
returns-then-bare c = valid_all c.requires.0 (valid-none c.args.list.at (sym c.bare.ensures ∙ c.if-bare.true))
