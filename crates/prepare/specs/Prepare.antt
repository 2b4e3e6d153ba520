-- An accepted mask as the code has it, and what is left to answer where its count is right: 12, or the list. Assumes nothing.
use Rattle.std.specs.Prelude.{List, ◌≡◌, ℕ, Result}
use Rattle.format.specs.declared.Pack.TheVariants.{Journal}
use Rattle.format.specs.declared.Ready.{Ready}
use Rattle.format.specs.declared.Refused.{Refused}
use Rattle.format.specs.Verdict.{mask_verdict}
use Rattle.format.specs.Mask.{count}
use Rattle.slots.specs.declared.Bits.{Bits}
use Rattle.slots.specs.Node.{bits_of}
use Rattle.format.specs.Refusal.{when, after}
use Rattle.format.specs.Answer.{Call, list_short, prepared_at, stores}

-- b is where the bits of the accepted mask m stand, and kept is its count
pub record Counted (m : List ℕ) (b : Bits) (kept : ℕ) : Type 0 where
  pub accepted : mask_verdict m ≡ 0
  pub bits : b ≡ bits_of m 0
  pub counted : kept ≡ count m

-- the answer and the list, past the mask's own refusals and 11
pub record Answered (c : Call) (r : Result Ready Refused) (list : List ℕ) : Type 0 where
  pub answered : r ≡ prepared_at (when (list_short c) 12 Journal) c
  pub listed : list ≡ after (when (list_short c) 12 Journal) (stores c) c.list
