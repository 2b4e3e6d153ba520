-- `slots::Source::both64` meets its contract. Assumes nothing.
use Rattle.std.proofs.Common.{rules, of_calls}
use Rattle.slots.proofs.Reading.{read-word}
use Rattle.slots.proofs.Source.both64.Goals as goal

pub returns : goal.returns
returns c =
    let h = c.both.ensures in
    let s = c.args.self in
    read-word s.bytes.now s.bits 64 c.args.i _ (search (rules, of_calls)) h.2 (λ at q. (q.0, search (rules, of_calls), q.2))
