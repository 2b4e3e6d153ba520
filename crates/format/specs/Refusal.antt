-- A call's refusals in their order, whatever the packs are called that it names (docs/FORMAT.md, 11). Assumes nothing.
use Rattle.std.specs.Prelude.{ℕ, zero, suc, Bool, cond, List}
use Rattle.format.specs.Bytes.{over}

-- a refusal's number and the pack that it names, or none. P are the packs of a call: mask and journal of the filter, others of other calls
pub data Refusal (P : Type 0) : Type 0 where
  unrefused : Refusal P
  refused_by : ℕ → P → Refusal P

module _ {P : Type 0} where
  -- a pack's own verdict, and a condition of a call, as refusals
  unfoldable pub of_verdict : P → ℕ → Refusal P
  of_verdict p zero = unrefused
  of_verdict p (suc n) = refused_by (suc n) p

  unfoldable pub when : Bool → ℕ → P → Refusal P
  when b n p = cond b (refused_by n p) unrefused

  -- the first one counts
  infixr 20 ◌then◌
  unfoldable pub ◌then◌ : Refusal P → Refusal P → Refusal P
  unrefused then t = t
  refused_by n p then t = refused_by n p

  -- a buffer as the call returns: as it was if refused, and else with its front written
  unfoldable pub after : Refusal P → List ℕ → List ℕ → List ℕ
  after unrefused new old = over new old
  after (refused_by n p) new old = old

-- to unfold `opened` is to unfold all of this module
unfoldable pub opened : Unit {0}
unfolding of_verdict when ◌then◌ after
opened = tt
