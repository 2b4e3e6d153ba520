-- `entries::filter` meets its contract: the call's own promise, its answer in numbers. Assumes nothing.
use mathlib.Core.Path.{ap, ◌∙◌}
use Rattle.entries.specs.Numbers.{refusal_number, answer_numbers}
use borrow.Author.Rules.{rules}
use Rattle.entries.proofs.filter.Goals as goal

pub returns : goal.returns
returns c =
    let p = rw c.then_some.ensures at c.filter-told.ensures in
    record {
      slip = c.refusal_number.ensures ∙ ap refusal_number p.answered;
      numbered = c.answer_numbers.ensures ∙ ap answer_numbers p.answered;
      written = p.written;
      listed = p.listed;
      cleared = p.cleared;
    }
