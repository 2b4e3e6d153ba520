-- `checker::named` meets its contract: a reason is that of its number. Assumes nothing.
use Rattle.std.proofs.Common.{◌≡◌, Result, Ok, Err, ap, sym, ◌∙◌, rules}
use Rattle.std.specs.Result.{MatchResult, IsErrAnd}
use Rattle.format.specs.declared.Pack.{Pack}
use Rattle.format.specs.declared.Reason.{Reason}
use Rattle.format.specs.declared.Refused.{Refused}
use Rattle.format.specs.Reason.{verdict_number}
use Rattle.format.specs.Answer.{own_answer}
use Rattle.format.proofs.Reasons.{own_answer-accepted, own_answer-reason}
use Rattle.checker.proofs.named.Goals as goal

named-is : (p : Pack) (v : Result (Unit {0}) Reason) (q : Result (Unit {0}) Refused) (Gives : Reason → Refused → Type 0)
    → ((r : Reason) (f : Refused) → Gives r f → f ≡ record { reason = r; pack = p })
    → MatchResult v (λ x. q ≡ Ok x) (λ r. IsErrAnd q (Gives r))
    → q ≡ own_answer p (verdict_number v)
named-is p (Ok u) q Gives names h = h ∙ sym (own_answer-accepted p)
named-is p (Err r) (Ok u) Gives names h = absurd h
named-is p (Err r) (Err f) Gives names h = ap Err (names r f h) ∙ sym (own_answer-reason {p = p} r)

pub returns : goal.returns
returns c = named-is _ _ _ _ (λ r f h. search rules) c.map_err.ensures.cases
