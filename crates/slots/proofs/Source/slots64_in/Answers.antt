-- `slots::Source::slots64_in` meets its contract: what `both64` gives, and no slot is cut. Assumes nothing.
use mathlib.Core.Path.{◌∙◌}
use native.Mathlib.Omega.{arith}
use Rattle.std.proofs.Common.{rules, of_calls}
use Rattle.slots.proofs.Reading.{read-word, word-full}
use Rattle.slots.proofs.Source.slots64_in.Goals as goal

pub returns : goal.returns
returns c =
    let h = c.both.ensures in
    let s = c.args.self in
    read-word s.bytes.now s.bits 64 c.args.i _ (search (rules, of_calls)) h.2 (λ at q. (q.0, search (rules, of_calls), q.2))
    ∙ word-full s.bytes.now s.bits 64 c.args.i (omega arith)
