-- Stretches of the mask, and what is kept in mind of each node. Assumes nothing.
use Prim.Native.Nat.{ℕ, ◌≤◌, ◌<◌, min}
use mathlib.Core.Bool.{Bool, true, false}
use mathlib.Core.List.{List}
use mathlib.Core.Path.{◌≡◌, sym, ◌∙◌}
use mathlib.Core.Logic.{dite}
use native.Mathlib.Decide.{dec_le, dec_lt}
use native.Mathlib.Omega.{arith}
use lib.ListN.{length, replicate, length-replicate, get_or-replicate, get_or-eq_default}
use Rattle.format.specs.Node.{rows}
use Rattle.format.specs.Slots.{All, FirstRun}
use Rattle.nesting.specs.Rows.{keeps}
use Rattle.stretches.specs.Stretches.{Alike, Holds, Recalled, unseen}

-- ---- the mask

module _ {p : ℕ → Bool} {r n len : ℕ} (l : r < len) where
  pub picked_none : {a e x : ℕ} → FirstRun p r n a e → r < a → x ≡ min a len → Alike p r len false x
  picked_none f h e = record { some = omega arith; high = omega arith; same = record { at = λ j g k. f.before.at j g (omega arith) } }

  pub picked-run : {a e x : ℕ} → FirstRun p r n a e → a ≤ r → x ≡ min e len → Alike p r len true x
  picked-run f h e =
      record { some = omega (arith, f.filled, f.low); high = omega arith; same = record { at = λ j g k. f.within.at j (omega arith) (omega arith) } }

  -- no slot past the last is picked
  pub picked-end : All p false r n → ((j : ℕ) → n ≤ j → p j ≡ false) → Alike p r len false len
  picked-end all none =
      record { some = l; high = omega arith; same = record { at = λ j g k. dite (dec_le n j) (λ h. none j h) (λ h. all.at j g (omega arith)) } }

-- ---- what is kept in mind

-- nothing yet
nothing : (p : ℕ → Bool) (n : ℕ) → Holds p n unseen
nothing p n = record { high = omega arith; same = record { at = λ j l h. absurd (omega arith) } }

pub recalled_none : (b root : List ℕ) (n : ℕ) → Recalled b root (replicate n unseen)
recalled_none b root n =
    record {
      at = λ i h. dite (dec_lt i n)
          (λ l. rw (get_or-replicate n i unseen unseen l) (nothing (keeps b root i) (rows b i)))
          (λ l.
          let past : length (replicate n unseen) ≤ i = omega (arith, length-replicate n unseen) in
          rw (get_or-eq_default (replicate n unseen) unseen past) (nothing (keeps b root i) (rows b i)));
    }

-- ---- stretches of a child

pub alike_of : {p q : ℕ → Bool} {r n m e : ℕ} {t : Bool} → n ≡ m → ((j : ℕ) → j < n → p j ≡ q j) → Alike p r n t e → Alike q r m t e
alike_of {n = n} k f a = record { some = a.some; high = omega (arith, a.high); same = record { at = λ j g h. sym (f j (omega (arith, a.high))) ∙ a.same.at j g h } }

-- its first row
pub alike-first : {p : ℕ → Bool} {r n e : ℕ} {t : Bool} → Alike p r n t e → p r ≡ t
alike-first {r = r} a = a.same.at r (omega arith) a.some
