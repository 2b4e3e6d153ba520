-- What holds of every width of a number. Assumes nothing.
use Rattle.std.proofs.Common.{ℕ, ◌^◌, ◌<◌, ◌≤◌, lt_of_lt_of_le, lit≤, ne_eqb}
use mathlib.Core.Bool.{false≢true}
use mathlib.Core.Logic.{dite}
use native.Mathlib.Decide.{ℕ_discrete}
use Rattle.format.specs.Verdict.{one_of}
use Rattle.words.specs.Width.{IsWidth}

-- what holds of 1, 2, 4 and 8
module _ (P : ℕ → Type 0) (one : P 1) (two : P 2) (four : P 4) (eight : P 8) where
  pub at-widths : (w : ℕ) → IsWidth w → P w
  unfolding one_of
  at-widths w e =
      dite (ℕ_discrete w 1) (λ q. rw q one)
      (λ a. dite (ℕ_discrete w 2) (λ q. rw q two)
      (λ b. dite (ℕ_discrete w 4) (λ q. rw q four)
      (λ c. dite (ℕ_discrete w 8) (λ q. rw q eight)
      (λ d. absurd (false≢true (rw (ne_eqb w 1 a, ne_eqb w 2 b, ne_eqb w 4 c, ne_eqb w 8 d) at e))))))

pub width-some : (w : ℕ) → IsWidth w → 1 ≤ w
width-some = at-widths (λ w. 1 ≤ w) (lit≤ tt) (lit≤ tt) (lit≤ tt) (lit≤ tt)

-- a number of this width fits 8 bytes
pub width-small : (w : ℕ) {n : ℕ} → IsWidth w → n < 256 ^ w → n < 2 ^ 64
width-small w e h = lt_of_lt_of_le h (at-widths (λ w. 256 ^ w ≤ 2 ^ 64) (lit≤ tt) (lit≤ tt) (lit≤ tt) (lit≤ tt) w e)
