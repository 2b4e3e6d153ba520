-- `entries::prepare` meets its contract: the call's own promise, its answer in numbers. Assumes nothing.
use Rattle.std.proofs.Common.{ap, ◌∙◌}
use Rattle.entries.specs.Numbers.{refusal_number, in_numbers}
use Rattle.entries.proofs.prepare.Goals as goal

pub returns : goal.returns
returns c =
    let p = rw c.then_some.ensures at c.prepare-prepared.ensures in
    record {
      slip = c.refusal_number.ensures ∙ ap refusal_number p.answered;
      numbers = c.in_numbers.ensures ∙ ap in_numbers p.answered;
      listed = p.listed;
    }
