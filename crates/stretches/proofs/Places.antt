-- Looking for the row of a list that has a child row. Assumes nothing.
use Prim.Native.Nat.{ℕ, suc, ◌+◌, ◌-◌, ◌≤◌, ◌<◌}
use mathlib.Core.Bool.{Bool, true, false, not, true≢false}
use mathlib.Core.List.{List}
use mathlib.Core.Path.{◌≡◌, refl, sym, ap, ◌∙◌}
use mathlib.Core.Logic.{dite}
use native.Mathlib.Decide.{dec_le, dec_lt, ℕ_discrete}
use native.Mathlib.Numerals.{add-one}
use native.Mathlib.Omega.{arith}
use borrow.Author.Tests.{ltb-true, ltb-false}
use lib.Dec.{ltb}
use Rattle.format.specs.Slots.{Sought}
use Rattle.format.specs.Node.{rows, skip, valid, first_number, run_end}
use Rattle.nesting.specs.Rows.{AtList}
use Rattle.nesting.proofs.ListAt.{list-spans, rise-to}
use Rattle.stretches.specs.Stretches.{Before, Past, Ended, InRow, InNone}

module _ {b : List ℕ} {w i : ℕ} (a : AtList b w i) where
  -- from a row whose child rows do not start past x
  pub before-row : {x row o : ℕ} → row ≤ rows b i → o ≡ first_number w b i row → o ≤ x → Before w b i x row
  before-row {row = row} l e h = record { high = l; before = λ k m. omega (arith, rise-to a (suc k) row (omega arith) l) }

  -- the first row behind it whose child rows end past x
  pub past-found : {x from n r : ℕ} → Before w b i x from → n ≡ rows b i → Sought (λ k. ltb x (first_number w b i (k + 1))) from n true r → Past w b i x r
  past-found {x} {from} h e s =
      record {
        high = omega (arith, s.high);
        before = λ k l. dite (dec_lt k from) (λ f. h.before k f) (λ f. rw add-one at (ltb-false _ _ (s.passed.at k (omega arith) l)));
        here = λ l. rw add-one at (ltb-true _ _ (s.here (omega arith)));
      }

  -- what the first row whose child rows end past x says of x
  module _ {x q : ℕ} (p : Past w b i x q) where
    -- a row that has a child row at or past x is not before q
    late : (y r : ℕ) → x ≤ y → y < first_number w b i (suc r) → q ≤ r
    late y r f g = dite (dec_le q r) (λ l. l) (λ l. absurd (omega (arith, p.before r (omega arith))))

    pub found-past : rows b i ≡ q → x < rows b (suc i) → InNone w b i x (rows b (suc i))
    found-past l m = record { some = m; high = omega arith; none = λ y r f g h _ _ k. omega (arith, late y r f k) }

    module _ (l : q < rows b i) where
      -- no row starts before q does, of those that have child rows past x
      pub found-gap : {s : ℕ} → s ≡ first_number w b i q → x < s → InNone w b i x s
      found-gap e m =
          record {
            some = m;
            high = omega (arith, (list-spans a).inside q (omega arith));
            none = λ y r f g h _ o k. omega (arith, rise-to a q r (late y r f k) (omega arith));
          }

      pub found-row : {s : ℕ} {t : Bool} → s ≡ first_number w b i q → s ≤ x → t ≡ valid b i q → t ≡ true → InRow w b i x q
      found-row e m v t = record { inside = l; is_valid = sym v ∙ t; low = omega arith; past = p.here l }

      pub found-null : {t : Bool} → t ≡ valid b i q → t ≡ false → {e : ℕ} → e ≡ first_number w b i (q + 1) → InNone w b i x e
      found-null {t} v f {e} k =
          let past : x < first_number w b i (suc q) = p.here l in
          let s : first_number w b i (q + 1) ≡ first_number w b i (suc q) = ap (first_number w b i) (add-one q) in
          record {
            some = omega arith;
            high = omega (arith, (list-spans a).inside (suc q) (omega arith));
            none = λ y r g h m u o n. dite (ℕ_discrete r q)
                (λ z. true≢false (sym u ∙ ap (valid b i) z ∙ sym v ∙ f))
                (λ z. omega (arith, late y r g n, rise-to a (suc q) r (omega (arith, late y r g n)) (omega arith)));
          }

-- the first run after run r that ends past x
pub ended-found : {b : List ℕ} {i r x n e : ℕ} → n ≡ rows b (suc i) → Sought (λ j. ltb x (run_end b i j - skip b i)) (r + 1) n true e → Ended b i r x e
ended-found z s = record { low = omega (arith, s.low); high = omega (arith, s.high); ends = λ j f g. ltb-false _ _ (s.passed.at j (omega arith) g) }

-- valid rows
pub valid-found : {p : ℕ → Bool} {q end r : ℕ} → Sought (λ k. not (p k)) q end true r → Sought p q end false r
valid-found {p} s =
    record { low = s.low; high = s.high; passed = record { at = λ j f g. flip (p j) true (s.passed.at j f g) }; here = λ l. flip _ false (s.here l) }
  where
    flip : (t u : Bool) → not t ≡ not u → t ≡ u
    flip true true e = refl
    flip true false e = absurd (true≢false (sym e))
    flip false true e = absurd (true≢false e)
    flip false false e = refl

pub valid_all : {p : ℕ → Bool} {q end : ℕ} → q ≤ end → ((j : ℕ) → true ≡ p j) → Sought p q end false end
valid_all l all = record { low = l; high = omega arith; passed = record { at = λ j _ _. sym (all j) }; here = λ f. absurd (omega arith) }
