-- The line's end is the first that is found. Assumes nothing.
use Rattle.std.proofs.Common.{rules, arith, ◌∙◌, ◌+◌, sym, ap, ℕ, drop, length-drop}
use borrow.Author.Tests.{tests}
use Rattle.std.proofs.lemmas.Iterator.{YieldsList-from_slice}
use Rattle.std.proofs.lemmas.Iterator.Search.{position_from_yields_List}
use Rattle.case_text.specs.Places.{ends_line}
use Rattle.case_text.proofs.Ends.{place_found, place_none, cut-is}
use Rattle.case_text.proofs.next_line.Goals as goal

pub returns-in-Some : goal.returns-in-Some
returns-in-Some c =
    let text = c.args.text.now in
    let found = position_from_yields_List ends_line _ _ c.position.result c.position.ensures.ran (YieldsList-from_slice text c.iter.ensures.rest) (λ x b q k. search (rules, tests)) in
    let at = place_found ends_line text (sym c.in-Some.is ∙ found) in
    let cut = cut-is text c.in-Some.end at.1 in
    record { rest = cut ∙ ap (λ (n : ℕ). drop (n + 1) text) at.0; shorter = λ h. rw (cut, length-drop) (omega arith) }

pub returns-in-None : goal.returns-in-None
returns-in-None c =
    let text = c.args.text.now in
    let found = position_from_yields_List ends_line _ _ c.position.result c.position.ensures.ran (YieldsList-from_slice text c.iter.ensures.rest) (λ x b q k. search (rules, tests)) in
    record { rest = sym (place_none ends_line text (sym c.in-None.is ∙ found)); shorter = λ h. h }
