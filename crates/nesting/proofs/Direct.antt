-- Entries that are copied by the offsets of the list above them: what it says of them, and which nodes are not such. Assumes nothing.
use Prim.Native.Nat.{ℕ, zero, suc}
use mathlib.Core.Bool.{Bool, true, false, ◌||◌, false≢true}
use mathlib.Core.List.{List}
use mathlib.Core.Logic.{◌⊎◌, inl, inr, ⊎_elim, dite}
use mathlib.Core.Path.{◌≡◌, refl, ap, ◌∙◌}
use native.Mathlib.Decide.{ℕ_discrete}
use native.Mathlib.Omega.{arith}
use borrow.Author.Tests.{eqb-true}
use Rattle.format.specs.Node.{kind_number, of_kind, has_no_bitmap, kind}
use Rattle.format.specs.Answer.{takes_scratch}
use Rattle.format.specs.Accepted.{Shares}
use Rattle.format.proofs.Accepted.{and_first, and_second}
use Rattle.nesting.specs.Rows.{plain_list, plain_entries, by_offsets, Level}
use Rattle.nesting.proofs.ByKind.{not-shared}

either : (x y : Bool) → (x || y) ≡ true → (x ≡ true) ⊎ (y ≡ true)
either true y e = inl refl
either false y e = inr e

module _ (b : List ℕ) (p : ℕ) (d : by_offsets b (suc p) ≡ true) where
  list-is : plain_list b p ≡ true
  unfolding by_offsets
  list-is = and_first _ _ d

  pub list-unmarked : has_no_bitmap b p ≡ true
  unfolding plain_list
  list-unmarked = and_second (of_kind 13 b p || of_kind 14 b p) _ list-is

  pub list-number : (kind_number b p ≡ 13) ⊎ (kind_number b p ≡ 14)
  unfolding plain_list of_kind
  list-number = ⊎_elim (λ e. inl (eqb-true _ 13 e)) (λ e. inr (eqb-true _ 14 e)) (either _ _ (and_first _ _ list-is))

module _ (b : List ℕ) where
  entries-are : (i : ℕ) → by_offsets b i ≡ true → plain_entries b i ≡ true
  unfolding by_offsets
  entries-are zero d = absurd (false≢true d)
  entries-are (suc p) d = and_second (plain_list b p) _ d

  pub entries-unmarked : (i : ℕ) → by_offsets b i ≡ true → has_no_bitmap b i ≡ true
  unfolding plain_entries
  entries-unmarked i d = and_second (of_kind 2 b i || of_kind 3 b i) _ (entries-are i d)

  pub entries-number : (i : ℕ) → by_offsets b i ≡ true → (kind_number b i ≡ 2) ⊎ (kind_number b i ≡ 3)
  unfolding plain_entries of_kind
  entries-number i d = ⊎_elim (λ e. inl (eqb-true _ 2 e)) (λ e. inr (eqb-true _ 3 e)) (either _ _ (and_first _ _ (entries-are i d)))

  -- ---- which nodes are no such entries

  never : (i : ℕ) → (by_offsets b i ≡ true → ⊥) → by_offsets b i ≡ false
  never i f = go (by_offsets b i) refl
    where
      go : (x : Bool) → by_offsets b i ≡ x → by_offsets b i ≡ false
      go true e = absurd (f e)
      go false e = e

  -- structs and unions
  shares-not : (i : ℕ) → Shares (kind b i) → by_offsets b i ≡ false
  shares-not i s = never i (λ d. ⊎_elim
      (λ e. not-shared b i (λ q. omega arith) (λ q. omega arith) s)
      (λ e. not-shared b i (λ q. omega arith) (λ q. omega arith) s)
      (entries-number i d))

  -- runs nodes and lists
  pub takes-not : (i : ℕ) → takes_scratch b i ≡ true → by_offsets b i ≡ false
  unfolding takes_scratch of_kind
  takes-not i t = never i (λ d. ⊎_elim (λ e. false≢true (rw e at t)) (λ e. false≢true (rw e at t)) (entries-number i d))

-- a node whose rows another keeps, where that is none
pub level-not : {b : List ℕ} {node t : ℕ} → Level b node t → by_offsets b node ≡ false → by_offsets b t ≡ false
level-not {b} {node} {t} l n = dite (ℕ_discrete t node) (λ q. ap (by_offsets b) q ∙ n) (λ f. shares-not b t (l.over f))
