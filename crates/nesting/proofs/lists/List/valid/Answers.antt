-- `nesting::lists::List::valid` meets its contract. Assumes nothing.
use mathlib.Core.Path.{sym, ◌∙◌}
use native.Mathlib.Omega.{arith}
use Rattle.nesting.proofs.ListAt.{rows_few, skip-few, validity-few, valid-none, valid-read}
use Rattle.journal.proofs.Marks.{unmarked, marked-at}
use Rattle.nesting.proofs.lists.List.valid.Goals as goal

pub overflow_add-first : goal.overflow_add-first
overflow_add-first c =
    let l = c.args.self in
    let m = marked-at _ _ (sym c.in-Some.is ∙ l.marked) in
    omega (arith, m.1, rows_few l.at, c.requires, skip-few l.at, validity-few l.at m.0)

pub returns-in-None : goal.returns-in-None
returns-in-None c = let l = c.args.self in valid-none l.at (unmarked _ _ (sym c.in-None.is ∙ l.marked)) c.args.r

pub returns-in-Some : goal.returns-in-Some
returns-in-Some c = let l = c.args.self in let m = marked-at _ _ (sym c.in-Some.is ∙ l.marked) in valid-read l.at m.0 m.1 c.args.r c.bit.ensures
