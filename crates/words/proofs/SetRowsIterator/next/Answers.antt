-- `next` of `SetRows` meets its contract: the lowest set bit is the first row, and what is left has the others. Assumes nothing.
use Rattle.std.proofs.Common.{rules, arith}
use Rattle.format.proofs.RowLaws.{set-none, below-first, below-others}
use Rattle.words.proofs.Turns.{row}
use Rattle.words.proofs.SetRowsIterator.next.Goals as goal

pub returns-then-self-eq0-clause-steps : goal.returns-then-self-eq0-clause-steps
returns-then-self-eq0-clause-steps c = (set-none _ _ c.if-self-eq0.true, set-none _ _ c.if-self-eq0.true)

pub overflow_add-row : goal.overflow_add-row
overflow_add-row c =
    let all = row c.args.self.now.base c.args.self.now.rest (search rules) (search rules) in
    record { fits = omega (arith, below-first (rw all at c.requires)) }

pub returns-clause-steps : goal.returns-clause-steps
returns-clause-steps c = row c.args.self.now.base c.args.self.now.rest (search rules) (search rules)

pub returns-clause-goes : goal.returns-clause-goes
returns-clause-goes c =
    let all = row c.args.self.now.base c.args.self.now.rest (search rules) (search rules) in
    let left = below-others (rw all at c.requires) in
    record {
      on = λ _. (left, tt, rw all (omega arith));
      keeps = left;
      rests = λ _. tt;
    }
