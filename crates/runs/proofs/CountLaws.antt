-- Laws of counts over a range of slots: word by word, and of the slots that all fail or all pass. Over any test p. Assumes nothing.
use Prim.Native.Nat.{ℕ, ◌+◌, ◌≤◌}
use mathlib.Core.Bool.{Bool, true, false}
use mathlib.Core.Path.{◌≡◌, refl, ap, ◌∙◌}
use native.Mathlib.Omega.{arith}
use lib.Count.{ones}
use lib.ListN.{length}
use Rattle.format.specs.Slots.{word_from, picks_from}
use Rattle.format.proofs.SlotLaws.{picks-none, picks-all, length_up, count-cat, count-le}
use Rattle.format.proofs.WordLaws.{from-ones}

module _ (p : ℕ → Bool) where
  -- x is the word of the m slots from i on
  module _ (m i x : ℕ) (e : x ≡ word_from p m i) where
    pub ones-picks : ones x ≡ length (picks_from p m i)
    ones-picks = ap ones e ∙ from-ones p m i

    pub ones-few : ones x ≤ m
    ones-few = omega (arith, ones-picks, count-le p m i)

    -- n counts the k slots before them
    pub count-more : (lo k l n : ℕ) → i ≡ lo + k → l ≡ k + m → n ≡ length (picks_from p k lo) → n + ones x ≡ length (picks_from p l lo)
    count-more lo k l n at to en =
        let cat = rw (← at) at (count-cat p k m lo) in
        rw to (omega (arith, ones-picks, cat))

-- slots that fail, and slots that pass
pub count_none : (n i : ℕ) → length (picks_from (λ j. false) n i) ≡ 0
count_none n i = ap length (picks-none (λ j. false) n i (record { at = λ j a l. refl }))

pub count-all : (n i : ℕ) → length (picks_from (λ j. true) n i) ≡ n
count-all n i = ap length (picks-all (λ j. true) n i (record { at = λ j a l. refl })) ∙ length_up n i
