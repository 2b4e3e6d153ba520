-- The place of the first byte that passes a test, as code finds it, and the text behind it. Assumes nothing.
use Prim.Native.Nat.{ℕ, ◌+◌, ◌-◌, ◌<◌, ◌≤◌}
use mathlib.Core.Bool.{Bool}
use mathlib.Core.List.{List, []}
use mathlib.Core.Path.{◌≡◌}
use native.Mathlib.Omega.{arith}
use lib.ListN.{length, drop, take}
use Rattle.std.proofs.lemmas.List.{drop_all, take_all, length-drop}
use mathlib.Core.Bool.{cond}
use mathlib.Core.Logic.{dite}
use native.Mathlib.Decide.{dec_lt}
use borrow.Author.Tests.{lt-ltb, le-ltb}
use lib.Dec.{ltb}
use Rattle.std.proofs.Common.{Option, Some, None}
use Rattle.std.proofs.lemmas.List.Sums.{prefix_len-le-length}
use Rattle.std.specs.Prelude.{unwrap_or}
use Rattle.std.specs.List.{position, position_or_len, after_first}

module _ (p : ℕ → Bool) (text : List ℕ) where
  pub place-le : position_or_len p text ≤ length text
  place-le = prefix_len-le-length _ text

  pub place-is : {o : Option ℕ} → o ≡ position p text → unwrap_or o (length text) ≡ position_or_len p text
  place-is {o} e = rw e (go (position_or_len p text) (length text) place-le)
    where
      go : (n m : ℕ) → n ≤ m → unwrap_or (cond (ltb n m) (Some n) None) m ≡ n
      go n m l = dite (dec_lt n m) (λ h. rw (lt-ltb n m h)) (λ h. rw (le-ltb n m (omega arith)) (omega arith))

  pub place_found : {i : ℕ} → Some i ≡ position p text → (i ≡ position_or_len p text) × (i < length text)
  place_found {i} e = go (position_or_len p text) (length text) e
    where
      go : (n m : ℕ) → Some i ≡ cond (ltb n m) (Some n) None → (i ≡ n) × (i < m)
      go n m e = dite (dec_lt n m) (λ h. let f : Some i ≡ Some n = rw (lt-ltb n m h) at e in let g : i ≡ n = cc in (g, omega arith)) (λ h. let f : Some i ≡ None = rw (le-ltb n m (omega arith)) at e in cc)

  pub place_none : None ≡ position p text → after_first p text ≡ []
  place_none e = go (position_or_len p text) e
    where
      go : (n : ℕ) → None ≡ cond (ltb n (length text)) (Some n) None → drop (n + 1) text ≡ []
      go n e = dite (dec_lt n (length text)) (λ h. let f : None ≡ Some n = rw (lt-ltb n (length text) h) at e in cc) (λ h. drop_all (n + 1) text (omega arith))

-- what a slice from place n + 1 on is, where n lies in the text
pub cut-is : (text : List ℕ) (n : ℕ) → n < length text → take (length text - (n + 1)) (drop (n + 1) text) ≡ drop (n + 1) text
cut-is text n h = take_all (length text - (n + 1)) (drop (n + 1) text) (omega (arith, length-drop (n + 1) text))
