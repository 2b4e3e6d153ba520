-- Laws of `between`: ranges split, and chosen numbers tell their test. Assumes nothing.
use Prim.Native.Nat.{ℕ, zero, suc, ◌+◌, ◌≤◌, ◌<◌}
use mathlib.Core.Bool.{Bool, true, false, cond, ◌||◌, and-false, or_assoc, or-false}
use mathlib.Core.List.{List, [], ◌∷◌, ◌++◌, append-nil}
use mathlib.Core.Path.{◌≡◌, refl, sym, ap, ◌∙◌}
use mathlib.Core.Logic.{◌⊎◌, inl, inr, ⊎_elim, dite}
use native.Mathlib.Decide.{dec_le}
use native.Mathlib.Nat.{eq-or-lt_of_le, zero-add}
use native.Mathlib.Omega.{arith}
use borrow.Author.Tests.{le-ltb, lt-ltb, le-leb, lt-leb}
use lib.Dec.{leb}
use lib.ListN.{length, length-append}
use Rattle.format.specs.Bytes.{any_below, chosen, within}
use Rattle.format.proofs.Demand3.{chosen-agree}
use Rattle.nesting.specs.Rows.{between, Sifted}

-- Ranges

pub in-yes : (lo hi x : ℕ) → lo ≤ x → x < hi → within 0 lo hi x ≡ true
unfolding within
in-yes lo hi x l h = rw (zero-add x, le-leb lo x l, lt-ltb x hi h)

pub in-low : (lo hi x : ℕ) → x < lo → within 0 lo hi x ≡ false
unfolding within
in-low lo hi x l = rw (zero-add x, lt-leb lo x l)

pub in-high : (lo hi x : ℕ) → hi ≤ x → within 0 lo hi x ≡ false
unfolding within
in-high lo hi x h = rw (zero-add x, le-ltb x hi h) (and-false (leb lo x))

-- a range in two
within-split : (a m c x : ℕ) → a ≤ m → m ≤ c → within 0 a c x ≡ (within 0 a m x || within 0 m c x)
within-split a m c x am mc =
    dite (dec_le m x)
    (λ h. dite (dec_le c x)
    (λ k. rw (in-high a c x k, in-high a m x h, in-high m c x k))
    (λ k. rw (in-yes a c x (omega arith) (omega arith), in-high a m x h, in-yes m c x h (omega arith))))
    (λ h. dite (dec_le a x)
    (λ k. rw (in-yes a c x k (omega arith), in-yes a m x k (omega arith)))
    (λ k. rw (in-low a c x (omega arith), in-low a m x (omega arith), in-low m c x (omega arith))))

or_swap : (p q r s : Bool) → ((p || q) || (r || s)) ≡ ((p || r) || (q || s))
or_swap true q r s = refl
or_swap false true true s = refl
or_swap false true false s = refl
or_swap false false r s = refl

pub split : (xs : List ℕ) (a m c : ℕ) → a ≤ m → m ≤ c → between xs a c ≡ (between xs a m || between xs m c)
unfolding between
split [] a m c am mc = refl
split (x ∷ xs) a m c am mc =
    rw (within-split a m c x am mc, split xs a m c am mc) (or_swap (within 0 a m x) (within 0 m c x) (between xs a m) (between xs m c))

pub empty : (xs : List ℕ) (lo hi : ℕ) → hi ≤ lo → between xs lo hi ≡ false
unfolding between
empty [] lo hi h = refl
empty (x ∷ xs) lo hi h =
    rw (dite (dec_le hi x) (λ k. in-high lo hi x k) (λ k. in-low lo hi x (omega arith)), empty xs lo hi h)

pub between-append : (xs ys : List ℕ) (lo hi : ℕ) → between (xs ++ ys) lo hi ≡ (between xs lo hi || between ys lo hi)
unfolding between
between-append [] ys lo hi = refl
between-append (x ∷ xs) ys lo hi = rw (between-append xs ys lo hi) (sym (or_assoc (within 0 lo hi x) (between xs lo hi) (between ys lo hi)))

-- Chosen numbers

last-in : (t : Bool) (n lo hi : ℕ) → lo ≤ n → n < hi → between (cond t (n ∷ []) []) lo hi ≡ t
unfolding between
last-in true n lo hi l h = rw (in-yes lo hi n l h)
last-in false n lo hi l h = refl

last_out : (t : Bool) (n lo hi : ℕ) → within 0 lo hi n ≡ false → between (cond t (n ∷ []) []) lo hi ≡ false
unfolding between
last_out true n lo hi e = rw e
last_out false n lo hi e = refl

module _ (p : ℕ → Bool) where
  -- none is chosen from n on
  pub above : (n lo hi : ℕ) → n ≤ lo → between (chosen p n) lo hi ≡ false
  unfolding chosen between
  above zero lo hi h = refl
  above (suc n) lo hi h = rw (between-append (chosen p n), above n lo hi (omega arith), last_out (p n) n lo hi (in-low lo hi n (omega arith)))

  -- a range may be cut at n
  pub cut : (n lo hi : ℕ) → n ≤ hi → between (chosen p n) lo hi ≡ between (chosen p n) lo n
  cut n lo hi h =
      dite (dec_le lo n)
      (λ l. rw (split (chosen p n) lo n hi l h, above n n hi (omega arith)) (or-false (between (chosen p n) lo n)))
      (λ l. rw (above n lo hi (omega arith), empty (chosen p n) lo n (omega arith)))

  -- the chosen numbers tell the test
  pub told : (n r : ℕ) → r < n → between (chosen p n) r (suc r) ≡ p r
  unfolding chosen
  told zero r h = absurd (omega arith)
  told (suc n) r h = rw (between-append (chosen p n)) (go (told n r) (eq-or-lt_of_le h))
    where
      go : (r < n → between (chosen p n) r (suc r) ≡ p r) → (suc r ≡ suc n) ⊎ (suc r < suc n)
          → (between (chosen p n) r (suc r) || between (cond (p n) (n ∷ []) []) r (suc r)) ≡ p r
      go ih (inl e) =
          let q : r ≡ n = omega arith in
          rw (q, above n n (suc n) (omega arith)) (last-in (p n) n n (suc n) (omega arith) (omega arith))
      go ih (inr l) =
          rw (ih (omega arith), last_out (p n) n r (suc r) (in-high r (suc r) n (omega arith))) (or-false (p r))

  pub any-chosen : (n lo k : ℕ) → lo + k ≤ n → between (chosen p n) lo (lo + k) ≡ any_below (λ j. p (lo + j)) k
  unfolding any_below
  any-chosen n lo zero h = empty (chosen p n) lo (lo + 0) (omega arith)
  any-chosen n lo (suc k) h =
      let s : lo + suc k ≡ suc (lo + k) = omega arith in
      rw (s, split (chosen p n) lo (lo + k) (suc (lo + k)) (omega arith) (omega arith), any-chosen n lo k (omega arith), told n (lo + k) (omega arith))

  pub length-chosen : (n : ℕ) → length (chosen p n) ≤ n
  unfolding chosen
  length-chosen zero = omega arith
  length-chosen (suc n) = rw (length-append (chosen p n)) (omega (arith, length-chosen n, go (p n)))
    where
      go : (t : Bool) → length (cond t (n ∷ []) []) ≤ 1
      go true = omega arith
      go false = omega arith

pub chosen_more : (p : ℕ → Bool) (n m : ℕ) → n ≤ m → ((r : ℕ) → n ≤ r → p r ≡ false) → chosen p m ≡ chosen p n
unfolding chosen
chosen_more p n zero h none = let q : n ≡ 0 = omega arith in rw q
chosen_more p n (suc m) h none =
    ⊎_elim (λ q. rw q) (λ l. rw (none m (omega arith), append-nil (chosen p m)) (chosen_more p n m (omega arith) none)) (eq-or-lt_of_le h)

-- Sifted lists

pub sifted : (p : ℕ → Bool) (n : ℕ) → Sifted (chosen p n) n
sifted p n = record { is = sym (chosen-agree (λ r. between (chosen p n) r (suc r)) p n (told p n)) }

pub sifted-cut : {xs : List ℕ} {n : ℕ} → Sifted xs n → (lo hi : ℕ) → n ≤ hi → between xs lo hi ≡ between xs lo n
sifted-cut {xs} {n} s lo hi h =
    ap (λ (ys : List ℕ). between ys lo hi) s.is
    ∙ cut (λ r. between xs r (suc r)) n lo hi h
    ∙ ap (λ (ys : List ℕ). between ys lo n) (sym s.is)

pub sifted-more : {xs : List ℕ} {n : ℕ} → Sifted xs n → (m : ℕ) → n ≤ m → Sifted xs m
sifted-more {xs} {n} s m h =
    let p : ℕ → Bool = λ r. between xs r (suc r) in
    record { is = s.is ∙ sym (chosen_more p n m h (λ r l. ap (λ (ys : List ℕ). between ys r (suc r)) s.is ∙ above p n r (suc r) l)) }

pub length-sifted : {xs : List ℕ} {n : ℕ} → Sifted xs n → length xs ≤ n
length-sifted {xs} {n} s = rw s.is (length-chosen (λ r. between xs r (suc r)) n)
