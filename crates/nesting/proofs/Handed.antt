-- What a node hands on, by its kind; a kind's number, by its name. Assumes nothing.
use Prim.Native.Nat.{ℕ, suc}
use mathlib.Core.Bool.{Bool, true, false, ◌&&◌, ◌||◌, false≢true}
use mathlib.Core.List.{List, ◌∷◌}
use mathlib.Core.Logic.{◌⊎◌, inl, inr, ⊎_elim}
use mathlib.Core.Path.{◌≡◌, refl, sym, ap, ◌∙◌}
use native.Mathlib.Omega.{arith}
use borrow.Author.Tests.{ne_eqb}
use lib.Dec.{eqb}
use lib.ListN.{replicate}
use Rattle.format.specs.declared.Kind.{Kind}
use Rattle.format.specs.declared.Kind.TheVariants as of
use Rattle.format.specs.Bytes.{le, sum_below}
use Rattle.format.specs.Node.{kind, kind_of, kind_number, field, table_start, of_kind, has_no_bitmap, no_bitmap}
use Rattle.format.specs.Answer.{takes_scratch}
use Rattle.format.specs.Accepted.{Shares, Carries, Nests, Inner}
use Rattle.format.specs.Accepted as is
use Rattle.format.proofs.Accepted.{number-kind, number_of}
use Rattle.pack.specs.declared.Node.{Node}
use Rattle.pack.specs.Read.{node_of}
use Rattle.nesting.specs.Rows.{plain_list, plain_entries, by_offsets}
use Rattle.nesting.specs.Hands.{Apart, shares}

-- ---- by its kind

shares-are : {k : Kind} → Shares k → (k ≡ of.Struct) ⊎ (k ≡ of.Union)
shares-are is.Shares.struct = inl refl
shares-are is.Shares.union = inr refl

nests-are : {w : ℕ} {k : Kind} → Nests w k → (k ≡ of.Nested32) ⊎ (k ≡ of.Nested64)
nests-are is.Nests.nested32 = inl refl
nests-are is.Nests.nested64 = inr refl

pub apart : {j k : Kind} → j ≡ k → (j ≡ of.Runs → ⊥) → (j ≡ of.Struct → ⊥) → (j ≡ of.Union → ⊥) → (j ≡ of.Nested32 → ⊥) → (j ≡ of.Nested64 → ⊥) → Apart k
apart e r s u m n =
    record {
      unshared = λ h. ⊎_elim (λ q. s (e ∙ q)) (λ q. u (e ∙ q)) (shares-are h);
      no_runs = λ q. r (e ∙ q);
      no_list = λ w h. ⊎_elim (λ q. m (e ∙ q)) (λ q. n (e ∙ q)) (nests-are h);
    }

-- a node with children that hands on neither its rows nor its runs nor child rows carries them
pub carries : {k : Kind} → Apart k → Inner k → Carries k
carries a (is.Inner.shared s) = absurd (a.unshared s)
carries a (is.Inner.by_runs e) = absurd (a.no_runs e)
carries a (is.Inner.by_spans w n) = absurd (a.no_list w n)
carries a (is.Inner.carried c) = c

pub shares-yes : (k : Kind) → shares k ≡ true → Shares k
shares-yes of.Struct e = is.Shares.struct
shares-yes of.Union e = is.Shares.union
shares-yes _ e = absurd (false≢true e)

pub shares-no : {k : Kind} → shares k ≡ false → Shares k → ⊥
shares-no e is.Shares.struct = false≢true (sym e)
shares-no e is.Shares.union = false≢true (sym e)

-- ---- by its number

-- a pack whose root has a kind of that number: what is known of a node's number is known of each number
abbrev root-of : ℕ → List ℕ
root-of n = n ∷ replicate 19 0

root-start : (n : ℕ) → table_start (root-of n) ≡ 0
unfolding table_start le sum_below
root-start n = refl

root-number : (n : ℕ) → kind_number (root-of n) 0 ≡ n
unfolding kind_number field le sum_below
root-number n = rw (root-start n) (omega arith)

module _ (n : ℕ) {j : Kind} (e : j ≡ kind_of n) where
  number-at : (k : Kind) → (k ≡ of.Unknown → ⊥) → j ≡ k → n ≡ number_of k
  unfolding kind
  number-at k u q = sym (root-number n) ∙ number-kind (root-of n) 0 k (ap kind_of (root-number n) ∙ sym e ∙ q) u

  other-at : (m : ℕ) (k : Kind) → kind_of m ≡ k → (j ≡ k → ⊥) → eqb n m ≡ false
  other-at m k f u = ne_eqb n m (λ q. u (e ∙ ap kind_of q ∙ f))

  pub takes_yes : (j ≡ of.Runs) ⊎ ((j ≡ of.Nested32) ⊎ (j ≡ of.Nested64)) → true ≡ (eqb n 9 || eqb n 13 || eqb n 14)
  takes_yes h =
      ⊎_elim (λ q. rw (number-at of.Runs (λ z. cc) q))
      (⊎_elim (λ q. rw (number-at of.Nested32 (λ z. cc) q)) (λ q. rw (number-at of.Nested64 (λ z. cc) q)))
      h

  pub takes_no : (j ≡ of.Runs → ⊥) → (j ≡ of.Nested32 → ⊥) → (j ≡ of.Nested64 → ⊥) → false ≡ (eqb n 9 || eqb n 13 || eqb n 14)
  unfolding kind_of
  takes_no r m o = rw (other-at 9 of.Runs refl r, other-at 13 of.Nested32 refl m, other-at 14 of.Nested64 refl o)

  pub list-yes : (j ≡ of.Nested32) ⊎ (j ≡ of.Nested64) → true ≡ (eqb n 13 || eqb n 14)
  list-yes h = ⊎_elim (λ q. rw (number-at of.Nested32 (λ z. cc) q)) (λ q. rw (number-at of.Nested64 (λ z. cc) q)) h

  pub list-no : (j ≡ of.Nested32 → ⊥) → (j ≡ of.Nested64 → ⊥) → false ≡ (eqb n 13 || eqb n 14)
  unfolding kind_of
  list-no m o = rw (other-at 13 of.Nested32 refl m, other-at 14 of.Nested64 refl o)

  pub entries-yes : (j ≡ of.Native) ⊎ (j ≡ of.Fixed) → true ≡ (eqb n 2 || eqb n 3)
  entries-yes h = ⊎_elim (λ q. rw (number-at of.Native (λ z. cc) q)) (λ q. rw (number-at of.Fixed (λ z. cc) q)) h

  pub entries-no : (j ≡ of.Native → ⊥) → (j ≡ of.Fixed → ⊥) → false ≡ (eqb n 2 || eqb n 3)
  unfolding kind_of
  entries-no m o = rw (other-at 2 of.Native refl m, other-at 3 of.Fixed refl o)

-- what is told of a node's numbers is told of the node
pub takes-is : (b : List ℕ) (i : ℕ) {n : Node} {t : Bool} → n ≡ node_of b i → t ≡ (eqb n.kind 9 || eqb n.kind 13 || eqb n.kind 14) → t ≡ takes_scratch b i
unfolding takes_scratch of_kind
takes-is b i e f = f ∙ ap (λ (m : Node). eqb m.kind 9 || eqb m.kind 13 || eqb m.kind 14) e

-- two nodes' numbers, of which the second follows the first
pub direct : (b : List ℕ) (p i : ℕ) → i ≡ suc p → {l n : Node} → l ≡ node_of b p → n ≡ node_of b i
    → ((eqb l.kind 13 || eqb l.kind 14) && eqb l.validity_at no_bitmap && ((eqb n.kind 2 || eqb n.kind 3) && eqb n.validity_at no_bitmap)) ≡ by_offsets b i
unfolding by_offsets plain_list plain_entries of_kind has_no_bitmap
direct b p i s e f = rw (e, f, s)
