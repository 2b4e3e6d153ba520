-- How far a call has come: what its inner functions may rest on. Assumes nothing.
use Rattle.std.specs.Prelude.{false, ◌≡◌}
use Rattle.format.specs.Mask.{count}
use Rattle.format.specs.Verdict.{journal_verdict}
use Rattle.format.specs.Answer.{Call, wrong_count, too_long, list_short}

-- the journal is accepted, and the count of an accepted mask is right
pub record Accepted (c : Call) : Type 0 where
  pub right : wrong_count c.stated (count c.mask) ≡ false
  pub journal : journal_verdict c.journal ≡ 0

-- the mask is not longer than the journal, and the list not short
pub record Listed (c : Call) : Type 0 where
  pub accepted : Accepted c
  pub fits : too_long c ≡ false
  pub roomy : list_short c ≡ false
