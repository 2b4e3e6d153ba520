-- Laws of each node's kept rows, by its parent's kind. Assumes nothing.
use Prim.Native.Nat.{ℕ, zero, suc, ◌<◌, min}
use mathlib.Core.Bool.{Bool}
use mathlib.Core.List.{List}
use mathlib.Core.Path.{◌≡◌, sym, ap, ◌∙◌, refl}
use mathlib.Core.Logic.{dite}
use native.Mathlib.Decide.{dec_le}
use native.Mathlib.Omega.{arith}
use lib.Dec.{ltb}
use lib.ListN.{length}
use Rattle.format.specs.Bytes.{chosen}
use Rattle.format.specs.declared.Kind.{Kind}
use Rattle.format.specs.declared.Kind.TheVariants.{Runs}
use Rattle.format.specs.Node.{parent, node_count, kind, rows, valid, first_number}
use Rattle.format.specs.Kept.{group_size, kept_rows, kept_runs, kept_spans, carried, passed_on}
use Rattle.format.specs.Accepted.{Sound, Shares, Carries, Nests, OneChild, Spans, Inner}
use Rattle.format.specs.Accepted as is
use Rattle.format.proofs.Laws.{kept-root, kept-child}
use Rattle.format.proofs.SpanLaws.{owned, kept_spans-are}
use Rattle.nesting.specs.Rows.{between, keeps, hands_on, Sifted}
use Rattle.nesting.proofs.Between.{sifted, sifted-cut}
use Rattle.nesting.proofs.RunRows.{carried-chosen}

pub one-of : {w : ℕ} {k : Kind} → Nests w k → OneChild k
one-of is.Nests.nested32 = is.OneChild.nested32
one-of is.Nests.nested64 = is.OneChild.nested64

-- what a kind hands on
hands-same : {k : Kind} → Shares k → (b : List ℕ) (p i : ℕ) (rs : List ℕ) → passed_on k b p i rs ≡ rs
unfolding passed_on
hands-same is.Shares.struct b p i rs = refl
hands-same is.Shares.union b p i rs = refl

hands-all : {k : Kind} → Carries k → (b : List ℕ) (p i : ℕ) (rs : List ℕ) → passed_on k b p i rs ≡ carried rs (rows b i)
unfolding passed_on
hands-all is.Carries.views b p i rs = refl
hands-all is.Carries.lists32 b p i rs = refl
hands-all is.Carries.lists64 b p i rs = refl
hands-all is.Carries.dictionary b p i rs = refl

sifted-runs : (b : List ℕ) (p : ℕ) (rs : List ℕ) → Sifted (kept_runs b p rs) (rows b (suc p))
unfolding kept_runs
sifted-runs b p rs = sifted (λ j. ltb 0 (group_size b p rs j)) (rows b (suc p))

hands-spans : {w : ℕ} {k : Kind} → Nests w k → (b : List ℕ) (p i : ℕ) (rs : List ℕ) → passed_on k b p i rs ≡ kept_spans w b p rs
unfolding passed_on
hands-spans is.Nests.nested32 b p i rs = refl
hands-spans is.Nests.nested64 b p i rs = refl

sifted-spans : (w : ℕ) (b : List ℕ) (p : ℕ) (rs : List ℕ) → Spans w b p → Sifted rs (rows b p) → Sifted (kept_spans w b p rs) (rows b (suc p))
sifted-spans w b p rs q s =
    rw (ap (kept_spans w b p) s.is ∙ kept_spans-are w b p (λ r. between rs r (suc r)) q) (sifted (owned (first_number w b p) (valid b p) (λ r. between rs r (suc r)) (rows b p) 0) (rows b (suc p)))

module _ (b root : List ℕ) where
  kept_under : (i : ℕ) → 0 < i → kept_rows b root i ≡ passed_on (kind b (parent b i)) b (parent b i) i (kept_rows b root (parent b i))
  kept_under zero l = absurd (omega arith)
  kept_under (suc i) l = kept-child b root i

  module _ (i : ℕ) (some : 0 < i) where
    pub kept-shared : Shares (kind b (parent b i)) → kept_rows b root i ≡ kept_rows b root (parent b i)
    kept-shared s = kept_under i some ∙ hands-same s b (parent b i) i (kept_rows b root (parent b i))

    pub kept-runs : kind b (parent b i) ≡ Runs → kept_rows b root i ≡ kept_runs b (parent b i) (kept_rows b root (parent b i))
    unfolding passed_on
    kept-runs e = kept_under i some ∙ rw e

    pub kept-spans-of : (w : ℕ) → Nests w (kind b (parent b i)) → kept_rows b root i ≡ kept_spans w b (parent b i) (kept_rows b root (parent b i))
    kept-spans-of w n = kept_under i some ∙ hands-spans n b (parent b i) i (kept_rows b root (parent b i))

    pub kept-carried : Carries (kind b (parent b i)) → kept_rows b root i ≡ carried (kept_rows b root (parent b i)) (rows b i)
    kept-carried c = kept_under i some ∙ hands-all c b (parent b i) i (kept_rows b root (parent b i))

-- what a node with one child hands on: the runs of a runs node, the child rows of a list
module _ (b : List ℕ) (p : ℕ) where
  pub handed-runs : kind b p ≡ Runs → (rs : List ℕ) (x : ℕ) → hands_on b p rs x ≡ between (kept_runs b p rs) x (suc x)
  unfolding hands_on passed_on
  handed-runs e rs x = rw e

  pub handed-spans : (w : ℕ) → Nests w (kind b p) → (rs : List ℕ) (x : ℕ) → hands_on b p rs x ≡ between (kept_spans w b p rs) x (suc x)
  unfolding hands_on
  handed-spans w n rs x = ap (λ (q : List ℕ). between q x (suc x)) (hands-spans n b p (suc p) rs)

  -- it is what the child keeps
  pub handed : Sound b → p < node_count b → OneChild (kind b p) → (root : List ℕ) {rs : List ℕ} → kept_rows b root p ≡ rs → hands_on b p rs ≡ keeps b root (suc p)
  unfolding keeps hands_on
  handed s h one root e =
      let up : parent b (suc p) ≡ p = s.shape.under p h one in
      sym (ap {B = ℕ → Bool} (λ (q : List ℕ) (r : ℕ). between q r (suc r)) (rw up at (kept_under b root (suc p) (omega arith)) ∙ ap (passed_on (kind b p) b p (suc p)) e))

module _ (b root : List ℕ) (sound : Sound b) where
  -- the child of a runs node is the node after it
  pub run-child : (i : ℕ) → 0 < i → i < node_count b → kind b (parent b i) ≡ Runs → i ≡ suc (parent b i)
  run-child i some h e = sound.shape.only i some h (rw e is.OneChild.runs)

  -- and so is a list's
  pub list-child : (i : ℕ) → 0 < i → i < node_count b → (w : ℕ) → Nests w (kind b (parent b i)) → i ≡ suc (parent b i)
  list-child i some h w n = sound.shape.only i some h (one-of n)

  sifted-child : (i : ℕ) → 0 < i → i < node_count b
      → Inner (kind b (parent b i)) → Sifted (kept_rows b root (parent b i)) (rows b (parent b i)) → Sifted (kept_rows b root i) (rows b i)
  sifted-child i some h (is.Inner.shared s) t = rw (kept-shared b root i some s, sound.agree.same i some h s) t
  sifted-child i some h (is.Inner.by_runs e) t =
      rw (kept-runs b root i some e, ap (rows b) (run-child i some h e)) (sifted-runs b (parent b i) (kept_rows b root (parent b i)))
  sifted-child i some h (is.Inner.by_spans w n) t =
      let up : parent b i < node_count b = omega (arith, sound.shape.above i some) in
      rw (kept-spans-of b root i some w n, ap (rows b) (list-child i some h w n)) (sifted-spans w b (parent b i) (kept_rows b root (parent b i)) (sound.spans w (parent b i) up n) t)
  sifted-child i some h (is.Inner.carried c) t =
      rw (kept-carried b root i some c, carried-chosen (kept_rows b root (parent b i)) (rows b i)) (sifted (λ k. ltb 0 (length (kept_rows b root (parent b i)))) (rows b i))

  -- each node keeps rows of its own, rising
  module _ (s : Sifted root (rows b 0)) where
    pub kept-sifted : (i : ℕ) → i < node_count b → Sifted (kept_rows b root i) (rows b i)
    kept-sifted i h = go (suc i) i (omega arith) h
      where
        go : (n i : ℕ) → i < n → i < node_count b → Sifted (kept_rows b root i) (rows b i)
        go zero i l h = absurd (omega arith)
        go (suc n) zero l h = rw (kept-root b root) s
        go (suc n) (suc i) l h =
            let p : parent b (suc i) < suc i = sound.shape.above (suc i) (omega arith) in
            sifted-child (suc i) (omega arith) h (sound.shape.inner (suc i) (omega arith) h) (go n (parent b (suc i)) (omega arith) (omega arith))

    -- they are those of its rows that `keeps` tells
    pub kept-all : (i : ℕ) → i < node_count b → kept_rows b root i ≡ chosen (keeps b root i) (rows b i)
    unfolding keeps
    kept-all i h = (kept-sifted i h).is

    -- a range may be cut at the node's rows
    pub kept-cut : (i lo hi : ℕ) → i < node_count b → between (kept_rows b root i) lo (min hi (rows b i)) ≡ between (kept_rows b root i) lo hi
    kept-cut i lo hi h =
        dite (dec_le (rows b i) hi)
        (λ l. let q : min hi (rows b i) ≡ rows b i = omega arith in rw q (sym (sifted-cut (kept-sifted i h) lo hi l)))
        (λ l. let q : min hi (rows b i) ≡ hi = omega arith in rw q)
