-- Whether a node has a bitmap, told by the place where one would stand. Assumes nothing.
use Rattle.std.proofs.Common.{ℕ, Bool, true, false, not, cond, ◌≡◌, refl, sym, ◌∙◌}
use Rattle.std.specs.Prelude.{Option, None, Some, MatchOption, ◌&&◌}
use Rattle.std.specs.Option.{is_some}
use borrow.Author.Tests.{eq-eqb, eqb-true}
use lib.Dec.{eqb}

-- there is none just where the test says so
pub none-just : (t : Bool) (n : ℕ) (o : Option ℕ) (r : Bool) → o ≡ cond t None (Some n) → is_some o ≡ not r → r ≡ t
none-just true n o true e f = refl
none-just true n o false e f = let g = rw e at f in cc
none-just false n o true e f = let g = rw e at f in cc
none-just false n o false e f = refl

-- the place where one is said to stand, and that it does; that none does
some-in : (t : Bool) (v at : ℕ) → Some at ≡ cond t None (Some v) → (at ≡ v) × (t ≡ false)
some-in true v at e = cc
some-in false v at e = (cc, refl)

none-in : (t : Bool) (v : ℕ) → None ≡ cond {A = Option ℕ} t None (Some v) → t ≡ true
none-in true v e = refl
none-in false v e = cc

pub one-at : (v k at : ℕ) (o : Option ℕ) → o ≡ cond (eqb v k) None (Some v) → o ≡ Some at → (at ≡ v) × (v ≡ k → ⊥)
one-at v k at o e f =
    let s = some-in (eqb v k) v at (sym f ∙ e) in
    (s.0, λ q. let t = eq-eqb v k q in let u = s.1 in cc)

pub none-at : (v k : ℕ) (o : Option ℕ) → o ≡ cond (eqb v k) None (Some v) → o ≡ None → v ≡ k
none-at v k o e f = eqb-true v k (none-in (eqb v k) v (sym f ∙ e))

-- a test of the place of a bitmap, if there is one
pub tested : (t : Bool) (v : ℕ) (o : Option ℕ) (r : Bool) (p : ℕ → Bool) → o ≡ cond t None (Some v) → MatchOption o (r ≡ false) (λ x. r ≡ p x) → r ≡ (not t && p v)
tested true v o r p e h = rw e at h
tested false v o r p e h = rw e at h
