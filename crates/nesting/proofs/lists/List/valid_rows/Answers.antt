-- `nesting::lists::List::valid_rows` meets its contract. Assumes nothing.
use mathlib.Core.Path.{sym, ◌∙◌}
use native.Mathlib.Omega.{arith}
use Rattle.nesting.proofs.ListAt.{skip-few, validity-few}
use Rattle.journal.proofs.Marks.{unmarked, marked-at}
use Rattle.nesting.proofs.Valid.{all_valid, some-valid}
use Rattle.nesting.proofs.lists.List.valid_rows.Goals as goal

pub overflow_add-first : goal.overflow_add-first
overflow_add-first c =
    let l = c.args.self in
    let m = marked-at _ _ (sym c.in-Some.is ∙ l.marked) in
    omega (arith, m.1, c.requires, skip-few l.at, validity-few l.at m.0)

pub returns-in-None : goal.returns-in-None
returns-in-None c = let l = c.args.self in all_valid l.at c.args.base c.args.word (omega arith) (unmarked _ _ (sym c.in-None.is ∙ l.marked))

pub returns-in-Some : goal.returns-in-Some
returns-in-Some c = let l = c.args.self in let m = marked-at _ _ (sym c.in-Some.is ∙ l.marked) in some-valid l.at c.args.base c.args.word m.0 m.1 c.load64.ensures
