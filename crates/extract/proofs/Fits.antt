-- An extract that a call gives fits the output that was lent. Assumes nothing.
use Rattle.std.proofs.Common.{Result, Ok, ◌≤◌, ◌≡◌, refl, length}
use borrow.Author.Tests.{ltb-false}
use Rattle.format.specs.declared.Pack.{Pack}
use Rattle.format.specs.declared.Done.{Done}
use Rattle.format.specs.Refusal.{Refusal, unrefused, refused_by}
use Rattle.format.specs.Answer.{Call, refusal_of, output_short, extract_of, answer, answer_at}
use Rattle.format.proofs.Accepted.{or_left}
use Rattle.format.proofs.Refusals.{passed, passed-test}

Ok-injective : {T E : Type 0} {x y : T} → ◌≡◌ {A = Result T E} (Ok x) (Ok y) → x ≡ y
Ok-injective e = cc

module _ (c : Call) where
  roomy : refusal_of c ≡ unrefused → length (extract_of c) ≤ length c.output
  unfolding refusal_of output_short
  roomy e =
      ltb-false (length c.output) (length (extract_of c))
      (or_left _ _ (passed-test _ 14 _ (passed _ _ (passed _ _ (passed _ _ (passed _ _ (passed _ _ (passed _ _ e).1).1).1).1).1).1))

  by-refusal : (r : Refusal Pack) → (r ≡ unrefused → length (extract_of c) ≤ length c.output) → (done : Done) → answer_at r c ≡ Ok done → done.bytes ≤ length c.output
  unfolding answer_at
  by-refusal unrefused fits done e = rw (← Ok-injective e) (fits refl)
  by-refusal (refused_by n p) fits done e = cc

  -- a call that is not refused
  pub done-fits : (done : Done) → answer c ≡ Ok done → done.bytes ≤ length c.output
  unfolding answer
  done-fits = by-refusal (refusal_of c) roomy
