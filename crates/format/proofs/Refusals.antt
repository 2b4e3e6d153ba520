-- What a call that is not refused has passed, and what it leaves; of any call, whatever packs it names. Assumes nothing.
use Rattle.std.proofs.Common.{◌≡◌, ℕ, zero, suc, Bool, true, false, List, length, take, refl, arith}
use lib.Seq.{take-append_seam}
use Rattle.format.specs.Bytes.{over}
use Rattle.format.specs.Refusal.{Refusal, unrefused, refused_by, of_verdict, when, ◌then◌, after}

module _ {P : Type 0} where
  pub passed : (r t : Refusal P) → (r then t) ≡ unrefused → (r ≡ unrefused) × (t ≡ unrefused)
  unfolding ◌then◌
  passed unrefused t e = (refl, e)
  passed (refused_by n p) t e = let z : ◌≡◌ {A = ℕ} 0 1 = cc in absurd (omega arith)

  pub passed-verdict : (p : P) (n : ℕ) → of_verdict p n ≡ unrefused → n ≡ 0
  unfolding of_verdict
  passed-verdict p zero e = refl
  passed-verdict p (suc n) e = let z : ◌≡◌ {A = ℕ} 0 1 = cc in absurd (omega arith)

  pub passed-test : (t : Bool) (n : ℕ) (p : P) → when t n p ≡ unrefused → t ≡ false
  unfolding when
  passed-test true n p e = let z : ◌≡◌ {A = ℕ} 0 1 = cc in absurd (omega arith)
  passed-test false n p e = refl

  -- what is written stands at the front of the buffer
  pub front : (r : Refusal P) (new old : List ℕ) → r ≡ unrefused → take (length new) (after r new old) ≡ new
  unfolding after over
  front r new old e = rw e (take-append_seam new _)
