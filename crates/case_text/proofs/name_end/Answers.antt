-- The name's end is the first that is found, or the text's. Assumes nothing.
use Rattle.std.proofs.Common.{rules, ◌∙◌, ◌≡◌, ◌≤◌, ℕ, sym, subst, length}
use borrow.Author.Tests.{tests}
use Rattle.std.proofs.lemmas.Iterator.{YieldsList-from_slice}
use Rattle.std.proofs.lemmas.Iterator.Search.{position_from_yields_List}
use Rattle.case_text.specs.Places.{ends_name, name_end}
use Rattle.case_text.proofs.Ends.{place-is, place-le}
use Rattle.case_text.proofs.name_end.Goals as goal

pub returns : goal.returns
returns c =
    let text = c.args.text.now in
    let found = position_from_yields_List ends_name _ _ c.position.result c.position.ensures.ran (YieldsList-from_slice text c.iter.ensures.rest) (λ x b q k. search (rules, tests)) in
    let e : c.unwrap_or.result ≡ name_end text = c.unwrap_or.ensures ∙ place-is ends_name text found in
    (e, subst (λ (n : ℕ). n ≤ length text) (sym e) (place-le ends_name text))
