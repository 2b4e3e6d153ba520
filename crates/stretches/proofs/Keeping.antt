-- Which rows a child keeps, by those of its parent: under the root, struct and union, runs, lists, and carried. Assumes nothing.
use Prim.Native.Nat.{ℕ, zero, suc, ◌+◌, ◌-◌, ◌≤◌, ◌<◌, min}
use mathlib.Core.Bool.{Bool, true, false, ◌&&◌, ◌||◌, or-true, true≢false}
use mathlib.Core.List.{List}
use mathlib.Core.Path.{◌≡◌, refl, sym, ap, ◌∙◌}
use mathlib.Core.Logic.{dite}
use native.Mathlib.Decide.{dec_le}
use native.Mathlib.Omega.{arith}
use lib.Dec.{ltb}
use lib.ListN.{length}
use Rattle.format.specs.Node.{kind, rows, valid, first_number, parent}
use Rattle.format.specs.Slots.{All}
use Rattle.format.specs.Kept.{group_size, kept_runs, kept_rows, kept_spans}
use Rattle.format.specs.Accepted.{Sound, Shares, Carries}
use Rattle.format.specs.Accepted as is
use Rattle.format.proofs.Laws.{kept-root}
use Rattle.format.proofs.SpanLaws.{owned, Rises, kept_spans-are}
use Rattle.slots.specs.declared.Bits.{Bits}
use Rattle.slots.specs.Source.{slot_of}
use Rattle.slots.proofs.Reading.{slot-past}
use Rattle.nesting.specs.Rows.{between, keeps, picks_of, Sifted, AtRuns, AtList}
use Rattle.nesting.proofs.Between.{split, empty, above, told}
use Rattle.nesting.proofs.RunRows.{rows_from, rows_to, group, carried-any}
use Rattle.nesting.proofs.Tree.{kept-shared, kept-runs, kept-carried, kept-spans-of, kept-all, kept-cut, one-of}
use Rattle.nesting.proofs.ListAt.{list-spans}
use Rattle.stretches.proofs.Owned.{owned-none, owned-all}

-- ---- ranges of kept rows

-- one kept row is enough
pub between-hit : (rs : List ℕ) (lo hi x : ℕ) → lo ≤ x → x < hi → between rs x (suc x) ≡ true → between rs lo hi ≡ true
between-hit rs lo hi x f g h =
    split rs lo x hi f (omega arith)
    ∙ ap (between rs lo x ||◌) (split rs x (suc x) hi (omega arith) (omega arith) ∙ ap (◌|| between rs (suc x) hi) h)
    ∙ or-true (between rs lo x)

-- where none of a range's rows is kept
pub between-miss : (rs : List ℕ) (lo hi : ℕ) → All (λ r. between rs r (suc r)) false lo hi → between rs lo hi ≡ false
between-miss rs lo hi all = dite (dec_le hi lo) (λ l. empty rs lo hi l) (λ l. go (hi - lo) hi (omega arith) all)
  where
    go : (d hi : ℕ) → hi ≡ lo + d → All (λ r. between rs r (suc r)) false lo hi → between rs lo hi ≡ false
    go zero hi e all = empty rs lo hi (omega arith)
    go (suc d) hi e all =
        let k : hi ≡ suc (lo + d) = omega arith in
        rw k
        (split rs lo (lo + d) (suc (lo + d)) (omega arith) (omega arith)
        ∙ ap (◌|| between rs (lo + d) (suc (lo + d))) (go d (lo + d) refl (record { at = λ j a b. all.at j a (omega arith) }))
        ∙ all.at (lo + d) (omega arith) (omega arith))

pub between_join : (rs : List ℕ) (lo m hi : ℕ) → lo ≤ m → m ≤ hi → between rs lo m ≡ false → between rs m hi ≡ false → between rs lo hi ≡ false
between_join rs lo m hi a c f g = split rs lo m hi a c ∙ ap (◌|| between rs m hi) f ∙ g

pub between-less : (rs : List ℕ) (lo hi x : ℕ) → between rs lo x ≡ false → hi ≤ x → between rs lo hi ≡ false
between-less rs lo hi x f l =
    dite (dec_le hi lo)
    (λ h. empty rs lo hi h)
    (λ h. go (between rs lo hi) (between rs hi x) (sym (split rs lo hi x (omega arith) l) ∙ f))
  where
    go : (s t : Bool) → (s || t) ≡ false → s ≡ false
    go true t e = absurd (true≢false e)
    go false t e = refl

pub between-sub : (rs : List ℕ) (lo x a c : ℕ) → lo ≤ a → c ≤ x → between rs lo x ≡ false → between rs a c ≡ false
between-sub rs lo x a c f g e =
    dite (dec_le c a)
    (λ h. empty rs a c h)
    (λ h. go (between rs lo a) (between rs a c) (sym (split rs lo a c f (omega arith)) ∙ between-less rs lo c x e g))
  where
    go : (s t : Bool) → (s || t) ≡ false → t ≡ false
    go true t e = absurd (true≢false e)
    go false t e = e

-- ---- the root

pub keeps-root : (b s : List ℕ) (bits : Bits) (j : ℕ) → slot_of s bits j ≡ keeps b (picks_of s bits) 0 j
unfolding keeps
keeps-root b s bits j =
    sym (ap (λ (rs : List ℕ). between rs j (suc j)) (kept-root b (picks_of s bits))
    ∙ dite (dec_le bits.len j)
    (λ l. above (slot_of s bits) bits.len j (suc j) l ∙ sym (slot-past s bits j l))
    (λ l. told (slot_of s bits) bits.len j (omega arith)))

-- ---- below it

module _ (b root : List ℕ) (sound : Sound b) (rooted : Sifted root (rows b 0)) where
  module _ (i p : ℕ) (some : 0 < i) (up : p ≡ parent b i) where
    pub keeps-shared : Shares (kind b p) → (j : ℕ) → keeps b root p j ≡ keeps b root i j
    unfolding keeps
    keeps-shared s j =
        ap (λ (rs : List ℕ). between rs j (suc j)) (ap (kept_rows b root) up ∙ sym (kept-shared b root i some (rw up at s)))

    pub keeps-carried : Carries (kind b p) → (j : ℕ) → j < rows b i → ltb 0 (length (kept_rows b root p)) ≡ keeps b root i j
    unfolding keeps
    keeps-carried c j l =
        sym (ap (λ (rs : List ℕ). between rs j (suc j)) (kept-carried b root i some (rw up at c))
        ∙ carried-any (kept_rows b root (parent b i)) (rows b i) j (suc j) (omega arith) (omega arith)
        ∙ ap (λ (k : ℕ). ltb 0 (length (kept_rows b root k))) (sym up))

  -- a run, by its rows
  module _ {p : ℕ} (a : AtRuns b p) where
    run-above : parent b (suc p) ≡ p
    run-above = sound.shape.under p a.inside (rw a.is_runs is.OneChild.runs)

    pub keeps-run : (j : ℕ) → j < rows b (suc p) → keeps b root (suc p) j ≡ between (kept_rows b root p) (rows_from b p j) (min (rows_to b p j) (rows b p))
    unfolding keeps kept_runs
    keeps-run j l =
        ap (λ (rs : List ℕ). between rs j (suc j)) (rw run-above at (kept-runs b root (suc p) (omega arith) (rw run-above a.is_runs)))
        ∙ told (λ k. ltb 0 (group_size b p (kept_rows b root p) k)) (rows b (suc p)) j l
        ∙ group b p (kept_rows b root p) j
        ∙ sym (kept-cut b root sound rooted p (rows_from b p j) (rows_to b p j) a.inside)

  -- child rows of a list
  module _ {w p : ℕ} (a : AtList b w p) where
    list-above : parent b (suc p) ≡ p
    list-above = sound.shape.under p a.inside (one-of a.is_list)

    rising : (q : ℕ → Bool) → Rises (first_number w b p) (valid b p) q (rows b p) 0
    rising q = record { at = λ r _ l. (list-spans a).rise r (omega arith) }

    keeps_owned : (y : ℕ) → y < rows b (suc p) → keeps b root (suc p) y ≡ owned (first_number w b p) (valid b p) (keeps b root p) (rows b p) 0 y
    unfolding keeps
    keeps_owned y l =
        ap (λ (rs : List ℕ). between rs y (suc y))
        (rw list-above at (kept-spans-of b root (suc p) (omega arith) w (rw list-above a.is_list))
        ∙ ap (kept_spans w b p) (kept-all b root sound rooted p a.inside)
        ∙ kept_spans-are w b p (keeps b root p) (list-spans a))
        ∙ told (owned (first_number w b p) (valid b p) (keeps b root p) (rows b p) 0) (rows b (suc p)) y l

    -- of no valid row
    pub keeps-none : (x e : ℕ) → e ≤ rows b (suc p)
        → ((y r : ℕ) → x ≤ y → y < e → r < rows b p → valid b p r ≡ true → first_number w b p r ≤ y → y < first_number w b p (suc r) → ⊥)
        → All (keeps b root (suc p)) false x e
    keeps-none x e l never =
        record { at = λ y f g. keeps_owned y (omega arith) ∙ owned-none (first_number w b p) (valid b p) (keeps b root p) (rows b p) 0 y (λ q _ m v o h. never y q f g (omega arith) v o h) }

    -- of rows that are alike
    pub keeps-rows : (x q e : ℕ) (t : Bool) → first_number w b p q ≤ x → q ≤ e → e ≤ rows b p
        → All (λ r. keeps b root p r && valid b p r) t q e → All (keeps b root (suc p)) t x (first_number w b p e)
    keeps-rows x q e t f g l all =
        record { at = λ y h m. keeps_owned y (omega (arith, (list-spans a).inside e l)) ∙ owned-all (first_number w b p) (valid b p) (keeps b root p) (rows b p) q e t (rising (keeps b root p)) l all y (omega arith) m g }
