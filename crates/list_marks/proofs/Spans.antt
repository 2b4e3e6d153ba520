-- The child rows of rows, by their offsets: a run's at once, a word's lowest run off, and those that the list keeps. Assumes nothing.
use Prim.Native.Nat.{ℕ, zero, suc, ◌+◌, ◌-◌, ◌≤◌, ◌<◌}
use mathlib.Core.Bool.{Bool, true, false, cond, ◌&&◌, ◌||◌, or_assoc}
use mathlib.Core.List.{List, [], ◌∷◌, ◌++◌, map}
use mathlib.Core.Logic.{dite}
use mathlib.Core.Path.{◌≡◌, refl, sym, ap, ◌∙◌}
use native.Mathlib.Decide.{dec_le}
use native.Mathlib.Nat.{add-zero, add-suc, suc-add}
use native.Mathlib.Omega.{arith}
use Rattle.format.specs.Bytes.{within, join}
use Rattle.format.specs.Rows.{set_rows, Below, more}
use Rattle.format.specs.Slots.{pick, picks_from, count_up}
use Rattle.format.specs.Node.{rows, valid, first_number}
use Rattle.format.specs.Kept.{span_size, span}
use Rattle.words.specs.Run.{LowestRun}
use Rattle.words.proofs.Carry.{run-below, rest_below}
use Rattle.nesting.specs.Rows.{between, AtList}
use Rattle.nesting.proofs.Between.{between-append}
use Rattle.nesting.proofs.ListAt.{list-spans, rise-to}
use Rattle.marks.proofs.Tests.{within_in, within-before, within-past, within_none, within-join}
use Rattle.list_marks.specs.Spans.{in_spans}

pub spans-append : (o : ℕ → ℕ) (xs ys : List ℕ) (x : ℕ) → in_spans o (xs ++ ys) x ≡ (in_spans o xs x || in_spans o ys x)
unfolding in_spans
spans-append o [] ys x = refl
spans-append o (r ∷ rs) ys x = rw (spans-append o rs ys x) (sym (or_assoc (within 0 (o r) (o (suc r)) x) (in_spans o rs x) (in_spans o ys x)))

pub spans-none : (o : ℕ → ℕ) (rs : List ℕ) (x : ℕ) → rs ≡ [] → in_spans o rs x ≡ false
unfolding in_spans
spans-none o rs x e = ap (λ (q : List ℕ). in_spans o q x) e

-- by offsets that are the same
pub spans-as : (o u : ℕ → ℕ) → ((r : ℕ) → o r ≡ u r) → (rs : List ℕ) (x : ℕ) → in_spans o rs x ≡ in_spans u rs x
unfolding in_spans
spans-as o u e [] x = refl
spans-as o u e (r ∷ rs) x = rw (e r, e (suc r), spans-as o u e rs x)

-- no row has child rows from the last offset on
pub spans-past : (o : ℕ → ℕ) (len top x : ℕ) → ((r : ℕ) → r ≤ len → o r ≤ top) → top ≤ x → (rs : List ℕ) → Below len rs → in_spans o rs x ≡ false
unfolding in_spans
spans-past o len top x h l [] below = refl
spans-past o len top x h l (r ∷ rs) (more k below) = rw (within-past (o r) (o (suc r)) x (omega (arith, h (suc r) k)), spans-past o len top x h l rs below)

-- ---- a run spans from its first offset to its last

module _ (o : ℕ → ℕ) (len : ℕ) (up : (r : ℕ) → r < len → o r ≤ o (suc r)) where
  pub climbs : (n a : ℕ) → a + n ≤ len → o a ≤ o (a + n)
  climbs zero a h = rw add-zero (omega arith)
  climbs (suc n) a h = rw (add-suc, ← suc-add) (omega (arith, up a (omega arith), climbs n (suc a) (omega arith)))

  pub spans-run : (n a x : ℕ) → a + n ≤ len → in_spans o (count_up n a) x ≡ within 0 (o a) (o (a + n)) x
  unfolding in_spans count_up
  spans-run zero a x h = rw add-zero (sym (within_none (o a) (o a) x (omega arith)))
  spans-run (suc n) a x h =
      let next : suc a + n ≡ a + suc n = omega arith in
      rw (spans-run n (suc a) x (omega arith)) (within-join (o a) (o (suc a)) (o (suc a + n)) x (up a (omega arith)) (climbs n (suc a) (omega arith)) ∙ ap (λ (k : ℕ). within 0 (o a) (o k) x) next)

-- ---- the rows of a word, its lowest run off

module _ {b : List ℕ} {w i base word from to rest : ℕ} (a : AtList b w i) (h : LowestRun base word from to rest) (below : Below (rows b i) (set_rows base word)) where
  pub run-inside : (from ≤ to) × (to ≤ rows b i)
  run-inside = (omega (arith, h.filled), run-below h below)

  pub rest-inside : Below (rows b i) (set_rows base rest)
  rest-inside = rest_below h below

  pub run-range : (first_number w b i from ≤ first_number w b i to) × (first_number w b i to ≤ rows b (suc i))
  run-range = (rise-to a from to run-inside.0 run-inside.1, (list-spans a).inside to run-inside.1)

  pub run-spans : (x : ℕ)
      → in_spans (first_number w b i) (set_rows base word) x ≡ (within 0 (first_number w b i from) (first_number w b i to) x || in_spans (first_number w b i) (set_rows base rest) x)
  run-spans x =
      let last : from + (to - from) ≡ to = omega (arith, run-inside) in
      ap (λ (q : List ℕ). in_spans (first_number w b i) q x) h.rows
      ∙ spans-append (first_number w b i) (count_up (to - from) from) (set_rows base rest) x
      ∙ ap (◌|| in_spans (first_number w b i) (set_rows base rest) x)
      (spans-run (first_number w b i) (rows b i) (list-spans a).rise (to - from) from x (omega (arith, last, run-inside)) ∙ ap (λ (e : ℕ). within 0 (first_number w b i from) (first_number w b i e) x) last)

-- ---- what a list hands on

-- x is a, either way about
one_at : (a x : ℕ) → within 0 x (suc x) a ≡ within 0 a (suc a) x
one_at a x =
    dite (dec_le a x)
    (λ h. dite (dec_le x a)
    (λ k. rw (within_in x (suc x) a k (omega arith), within_in a (suc a) x h (omega arith)))
    (λ k. rw (within-before x (suc x) a (omega arith), within-past a (suc a) x (omega arith))))
    (λ h. rw (within-past x (suc x) a (omega arith), within-before a (suc a) x (omega arith)))

between-up : (n a x : ℕ) → between (count_up n a) x (suc x) ≡ within 0 a (a + n) x
unfolding between count_up
between-up zero a x = sym (within_none a (a + 0) x (omega arith))
between-up (suc n) a x =
    let next : suc a + n ≡ a + suc n = omega arith in
    rw (one_at a x, between-up n (suc a) x, next) (within-join a (suc a) (a + suc n) x (omega arith) (omega arith))

-- as far as its size says
sized : (a c x : ℕ) → within 0 a (a + (c - a)) x ≡ within 0 a c x
sized a c x =
    dite (dec_le a c) (λ h. let e : a + (c - a) ≡ c = omega arith in rw e)
    (λ h. rw (within_none a (a + (c - a)) x (omega arith), within_none a c x (omega arith)))

module _ (w : ℕ) (b : List ℕ) (i : ℕ) where
  one_span : (t : Bool) (r x : ℕ) → valid b i r ≡ t → between (span w b i r) x (suc x) ≡ cond t (within 0 (first_number w b i r) (first_number w b i (suc r)) x) false
  unfolding span span_size
  one_span true r x e = rw e (between-up _ _ x ∙ sized (first_number w b i r) (first_number w b i (suc r)) x)
  one_span false r x e = rw e (between-up 0 (first_number w b i r) x ∙ within_none (first_number w b i r) (first_number w b i r + 0) x (omega arith))

  -- the child rows of the valid ones of picked rows
  pub spans-kept : (p : ℕ → Bool) (n c x : ℕ) → between (join (map (span w b i) (picks_from p n c))) x (suc x) ≡ in_spans (first_number w b i) (picks_from (λ r. p r && valid b i r) n c) x
  unfolding picks_from join between in_spans
  spans-kept p zero c x = refl
  spans-kept p (suc n) c x = go (p c) (valid b i c) refl (spans-kept p n (suc c) x)
    where
      go : (s t : Bool) → valid b i c ≡ t
          → between (join (map (span w b i) (picks_from p n (suc c)))) x (suc x) ≡ in_spans (first_number w b i) (picks_from (λ r. p r && valid b i r) n (suc c)) x
          → between (join (map (span w b i) (pick s c (picks_from p n (suc c))))) x (suc x) ≡ in_spans (first_number w b i) (pick (s && t) c (picks_from (λ r. p r && valid b i r) n (suc c))) x
      go true true e ih = rw (between-append (span w b i c), one_span true c x e, ih)
      go true false e ih = rw (between-append (span w b i c), one_span false c x e) ih
      go false t e ih = ih
