-- The child rows that lists own: those of a row, of rows that are alike, and those of none. Assumes nothing.
use Prim.Native.Nat.{ℕ, zero, suc, ◌+◌, ◌-◌, ◌≤◌, ◌<◌}
use mathlib.Core.Bool.{Bool, true, false, ◌&&◌, ◌||◌, and-false}
use mathlib.Core.Path.{◌≡◌, refl, ap, ◌∙◌}
use mathlib.Core.Logic.{dite}
use native.Mathlib.Decide.{ℕ_discrete, dec_le, dec_lt}
use native.Mathlib.Omega.{arith}
use borrow.Author.Tests.{le-ltb, lt-ltb, le-leb, lt-leb}
use lib.Dec.{leb, ltb}
use Rattle.format.specs.Slots.{All}
use Rattle.format.proofs.SpanLaws.{owned, Rises}

module _ (o : ℕ → ℕ) (v p : ℕ → Bool) where
  -- the first row's share
  abbrev mine : ℕ → ℕ → Bool
  mine i y = p i && v i && (leb (o i) y && ltb y (o (suc i)))

  not-mine : (i y : ℕ) → (v i ≡ true → o i ≤ y → y < o (suc i) → ⊥) → mine i y ≡ false
  not-mine i y never = go (p i) (v i) refl
    where
      there : v i ≡ true → (leb (o i) y && ltb y (o (suc i))) ≡ false
      there e =
          dite (dec_le (o i) y)
          (λ l. rw (le-ltb y (o (suc i)) (dite (dec_le (o (suc i)) y) (λ h. h) (λ h. absurd (never e l (omega arith))))) (and-false (leb (o i) y)))
          (λ l. rw (lt-leb (o i) y (omega arith)))

      go : (s t : Bool) → v i ≡ t → (s && t && (leb (o i) y && ltb y (o (suc i)))) ≡ false
      go true true e = there e
      go true false e = refl
      go false t e = refl

  -- a child row that no valid row has
  pub owned-none : (n i y : ℕ) → ((q : ℕ) → i ≤ q → q < i + n → v q ≡ true → o q ≤ y → y < o (suc q) → ⊥) → owned o v p n i y ≡ false
  unfolding owned
  owned-none zero i y never = refl
  owned-none (suc n) i y never =
      rw (not-mine i y (never i (omega arith) (omega arith)), owned-none n (suc i) y (λ q a l. never q (omega arith) (omega arith)))

  rest : {n i : ℕ} → Rises o v p (suc n) i → Rises o v p n (suc i)
  rest h = record { at = λ r a l. h.at r (omega arith) (omega arith) }

  rise : (d n i : ℕ) → Rises o v p n i → d ≤ n → o i ≤ o (i + d)
  rise zero n i h l = let e : i + 0 ≡ i = omega arith in rw e (omega arith)
  rise (suc d) n i h l = let e : i + suc d ≡ suc (i + d) = omega arith in rw e (omega (arith, rise d n i h (omega arith), h.at (i + d) (omega arith) (omega arith)))

  -- a child row of row q
  pub owned_in : (n i q y : ℕ) → Rises o v p n i → i ≤ q → q < i + n → o q ≤ y → y < o (suc q) → owned o v p n i y ≡ (p q && v q)
  unfolding owned
  owned_in zero i q y h a l f g = absurd (omega arith)
  owned_in (suc n) i q y h a l f g =
      dite (ℕ_discrete q i)
      (λ e. rw (e, le-leb (o i) y (rw e at f), lt-ltb y (o (suc i)) (rw e at g), owned-none n (suc i) y (later e)) (tail (p i) (v i)))
      (λ e. rw (not-mine i y (λ _ _ m. absurd (omega (arith, past e)))) (owned_in n (suc i) q y (rest h) (omega arith) (omega arith) f g))
    where
      past : (q ≡ i → ⊥) → o (suc i) ≤ o q
      past e = let k : suc i + (q - suc i) ≡ q = omega arith in rw k at (rise (q - suc i) n (suc i) (rest h) (omega arith))

      later : q ≡ i → (r : ℕ) → suc i ≤ r → r < suc i + n → v r ≡ true → o r ≤ y → y < o (suc r) → ⊥
      later e r b m _ k _ =
          let z : suc i + (r - suc i) ≡ r = omega arith in
          let up : o (suc i) ≤ o r = rw z at (rise (r - suc i) n (suc i) (rest h) (omega arith)) in
          let s : y < o (suc i) = rw e at g in
          omega arith

      tail : (s t : Bool) → (s && t && true || false) ≡ (s && t)
      tail true true = refl
      tail true false = refl
      tail false t = refl

  -- the child rows of rows that are alike
  pub owned-all : (n q e : ℕ) (t : Bool) → Rises o v p n 0 → e ≤ n → All (λ r. p r && v r) t q e → (y : ℕ) → o q ≤ y → y < o e → q ≤ e → owned o v p n 0 y ≡ t
  owned-all n q e t h l all y f g le = go (e - q) e refl l all g le
    where
      go : (d e : ℕ) → d ≡ e - q → e ≤ n → All (λ r. p r && v r) t q e → y < o e → q ≤ e → owned o v p n 0 y ≡ t
      go zero e k l all g le = let z : e ≡ q = omega arith in absurd (omega (arith, ap o z))
      go (suc d) zero k l all g le = absurd (omega arith)
      go (suc d) (suc e) k l all g le =
          dite (dec_lt y (o e))
          (λ m. go d e (omega arith) (omega arith) (record { at = λ j a b. all.at j a (omega arith) }) m (omega arith))
          (λ m. owned_in n 0 e y h (omega arith) (omega arith) (omega arith) g ∙ all.at e (omega arith) (omega arith))
