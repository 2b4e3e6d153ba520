-- A node's stretches by its parent's: what each way of telling them asks and gives. Assumes nothing.
use Prim.Native.Nat.{ℕ, zero, suc, ◌-◌, ◌≤◌, ◌<◌, min}
use mathlib.Core.Bool.{Bool, true, false, ◌&&◌, ◌||◌, true≢false, or-true}
use mathlib.Core.List.{List}
use mathlib.Core.Path.{◌≡◌, refl, sym, ap, ◌∙◌}
use mathlib.Core.Logic.{dite}
use native.Mathlib.Decide.{dec_le, ℕ_discrete}
use native.Mathlib.Omega.{arith}
use borrow.Author.Tests.{eq-eqb}
use lib.Dec.{eqb, ltb}
use lib.ListN.{length}
use Rattle.format.specs.Node.{node_count, kind, rows, valid, first_number, run_start, run_end, parent}
use Rattle.format.specs.Slots.{All, Sought}
use Rattle.format.specs.Kept.{kept_rows}
use Rattle.format.specs.Accepted.{Sound, Shares}
use Rattle.slots.specs.declared.Source.{Source}
use Rattle.slots.specs.Slot.{slot_in}
use Rattle.nesting.specs.Rows.{between, keeps, picks_in, Sifted, AtRuns, AtList}
use Rattle.nesting.specs.Hands.{Apart}
use Rattle.nesting.proofs.Handed.{carries}
use Rattle.nesting.proofs.ListAt.{list-spans, rise-to}
use Rattle.nesting.proofs.RunRows.{rows_from, rows_to}
use Rattle.nesting.proofs.Tree.{run-child, list-child}
use Rattle.stretches.specs.Stretches.{Alike, Ended, InRow, InNone}
use Rattle.stretches.proofs.Keeping.{between-hit, between-miss, between_join, between-less, between-sub, keeps-root, keeps-shared, keeps-carried, keeps-run, keeps-none, keeps-rows}
use Rattle.stretches.proofs.Minding.{alike_of}

-- what is left gets less, and a number that is neither of two is not one of them
pub closer : {x e hi : ℕ} → x < e → x < hi → hi - e < hi - x
closer f g = omega arith

pub neither : {k : ℕ} → k ≡ 10 → (eqb k 10 || eqb k 11) ≡ false → ⊥
neither {k} e q = true≢false (sym (ap (◌|| eqb k 11) (eq-eqb k 10 e)) ∙ q)

pub nor : {k : ℕ} → k ≡ 11 → (eqb k 10 || eqb k 11) ≡ false → ⊥
nor {k} e q = true≢false (sym (ap (eqb k 10 ||◌) (eq-eqb k 11 e) ∙ or-true (eqb k 10)) ∙ q)

-- ---- the root

pub root_told : (b : List ℕ) (source : Source) {r e : ℕ} {t : Bool} → Alike (slot_in source) r (rows b 0) t e → Alike (keeps b (picks_in source) 0) r (rows b 0) t e
root_told b source = alike_of refl (λ j _. keeps-root b source.bytes.now source.bits j)

-- ---- a node below it, by its parent

module _ {b root : List ℕ} (sound : Sound b) (rooted : Sifted root (rows b 0)) {node p : ℕ} (h : node < node_count b) (some : 0 < node) (up : p ≡ parent b node) where
  pub parent-low : p < node
  parent-low = rw up (sound.shape.above node some)

  -- struct and union
  module _ (s : Shares (kind b p)) where
    same_rows : rows b node ≡ rows b p
    same_rows = sound.agree.same node some h (rw up at s) ∙ ap (rows b) (sym up)

    pub shared-told : {r e : ℕ} {t : Bool} → Alike (keeps b root p) r (rows b p) t e → Alike (keeps b root node) r (rows b node) t e
    shared-told = alike_of (sym same_rows) (λ j _. keeps-shared b root sound rooted node p some up s j)

  -- runs and lists
  pub runs-next : AtRuns b p → node ≡ suc p
  runs-next a = rw up (run-child b root sound node some h (rw up at a.is_runs))

  pub list-next : {w : ℕ} → AtList b w p → node ≡ suc p
  list-next {w} a = rw up (list-child b root sound node some h w (rw up at a.is_list))

  -- carried
  pub carried-told : Apart (kind b p) → {r k : ℕ} → r < rows b node → k ≡ length (kept_rows b root p) → Alike (keeps b root node) r (rows b node) (ltb 0 k) (rows b node)
  carried-told a l k =
      record {
        some = l;
        high = omega arith;
        same = record { at = λ j _ m. sym (keeps-carried b root sound rooted node p some up (carries a (rw up (sound.shape.inner node some h))) j m) ∙ ap (ltb 0) (sym k) };
      }

-- the same node by its parent's number
pub next-told : (b root : List ℕ) {p node r e : ℕ} {t : Bool} → node ≡ suc p → Alike (keeps b root (suc p)) r (rows b (suc p)) t e → Alike (keeps b root node) r (rows b node) t e
next-told b root q = alike_of (ap (rows b) (sym q)) (λ j _. ap (λ (i : ℕ). keeps b root i j) (sym q))

-- ---- a run

-- run ends rise
pub run-rises : {b : List ℕ} {p : ℕ} → AtRuns b p → (j : ℕ) → j < rows b (suc p) → run_start b p j < run_end b p j
run-rises {p = p} a j l = (a.sound.run_ends p a.inside a.is_runs).rise j l

start-after : (b : List ℕ) (p : ℕ) → ((j : ℕ) → j < rows b (suc p) → run_start b p j < run_end b p j) → (r j : ℕ) → r < j → j ≤ rows b (suc p) → run_end b p r ≤ run_start b p j
unfolding run_start
start-after b p up r zero f g = absurd (omega arith)
start-after b p up r (suc j) f g =
    dite (ℕ_discrete r j)
    (λ z. rw z (omega arith))
    (λ z. omega (arith, start-after b p up r j (omega arith) (omega arith), up j (omega arith)))

module _ {b root : List ℕ} (rooted : Sifted root (rows b 0)) {p : ℕ} (a : AtRuns b p) {r : ℕ} (l : r < rows b (suc p)) where
  module _ {lo hi : ℕ} (el : lo ≡ rows_from b p r) (eh : hi ≡ min (rows_to b p r) (rows b p)) where
    run_is : keeps b root (suc p) r ≡ between (kept_rows b root p) lo hi
    run_is = rw (el, eh) (keeps-run b root a.sound rooted a r l)

    -- run r, and the runs after it, by what is said of each
    runs-told : {t : Bool} {x e : ℕ} → Ended b p r x e → between (kept_rows b root p) lo hi ≡ t
        → ((j : ℕ) → r < j → j < e → between (kept_rows b root p) (rows_from b p j) (min (rows_to b p j) (rows b p)) ≡ t)
        → Alike (keeps b root (suc p)) r (rows b (suc p)) t e
    runs-told n k others =
        record {
          some = n.low;
          high = n.high;
          same = record { at = λ j f g. dite (ℕ_discrete j r) (λ z. rw z (run_is ∙ k)) (λ z. keeps-run b root a.sound rooted a j (omega (arith, n.high)) ∙ others j (omega arith) g) };
        }

    -- a later run starts where run r ends or after it, and has a row if it starts after row 0
    starts-later : (j : ℕ) → r < j → j < rows b (suc p) → rows_to b p r ≤ rows_from b p j
    starts-later j f g = omega (arith, start-after b p (run-rises a) r j f (omega arith))

    -- one of its rows is kept, and the rows of the others
    pub run-hit : {x y e : ℕ} → lo ≤ x → x < hi → Alike (keeps b root p) x (rows b p) true y → Ended b p r y e → Alike (keeps b root (suc p)) r (rows b (suc p)) true e
    unfolding keeps
    run-hit {x} {y} {e} f g k n =
        runs-told n (between-hit (kept_rows b root p) lo hi x f g (k.same.at x (omega arith) k.some))
        (λ j m l.
        let later = starts-later j m (omega (arith, n.high)) in
        let filled : rows_from b p j < rows_to b p j = omega (arith, run-rises a j (omega (arith, n.high))) in
        between-hit (kept_rows b root p) (rows_from b p j) (min (rows_to b p j) (rows b p)) (rows_from b p j) (omega arith) (omega (arith, n.ends j m l, k.high)) (k.same.at (rows_from b p j) (omega arith) (omega (arith, n.ends j m l))))

    -- none is, nor one of the others'
    pub run-miss : {x e : ℕ} → lo ≤ x → between (kept_rows b root p) lo x ≡ false → hi ≤ x → Ended b p r x e → Alike (keeps b root (suc p)) r (rows b (suc p)) false e
    run-miss {x} k f g n =
        runs-told n (between-less (kept_rows b root p) lo hi x f g)
        (λ j m l. between-sub (kept_rows b root p) lo x (rows_from b p j) (min (rows_to b p j) (rows b p)) (omega (arith, starts-later j m (omega (arith, n.high)), run-rises a r (omega (arith, n.high)))) (omega (arith, n.ends j m l)) f)

-- none of the rows so far, and none of a stretch
pub missed_more : (b root : List ℕ) (p lo : ℕ) {x e n : ℕ} → lo ≤ x → between (kept_rows b root p) lo x ≡ false → Alike (keeps b root p) x n false e → between (kept_rows b root p) lo e ≡ false
unfolding keeps
missed_more b root p lo {x} {e} f g k = between_join (kept_rows b root p) lo x e f (omega (arith, k.some)) g (between-miss (kept_rows b root p) x e k.same)

-- ---- child rows of a list

module _ {b root : List ℕ} (rooted : Sifted root (rows b 0)) {p w : ℕ} (a : AtList b w p) {x : ℕ} where
  pub gap-told : {e : ℕ} → InNone w b p x e → Alike (keeps b root (suc p)) x (rows b (suc p)) false e
  gap-told {e} n = record { some = n.some; high = n.high; same = keeps-none b root a.sound rooted a x e n.high n.none }

  module _ {q : ℕ} (at : InRow w b p x q) where
    rows_told : {e : ℕ} {t : Bool} → suc q ≤ e → e ≤ rows b p → All (λ r. keeps b root p r && valid b p r) t q e
        → Alike (keeps b root (suc p)) x (rows b (suc p)) t (first_number w b p e)
    rows_told {e} m n all =
        record {
          some = omega (arith, at.past, rise-to a (suc q) e (omega arith) n);
          high = (list-spans a).inside e n;
          same = keeps-rows b root a.sound rooted a x q e _ at.low (omega arith) n all;
        }

    -- rows that are dropped
    pub dropped-told : {e o : ℕ} → Alike (keeps b root p) q (rows b p) false e → o ≡ first_number w b p e → Alike (keeps b root (suc p)) x (rows b (suc p)) false o
    dropped-told k z = rw z (rows_told k.some k.high (record { at = λ j g m. rw (k.same.at j g m) }))

    -- rows that are kept, as far as they are valid
    pub valid-told : {e v o : ℕ} → Alike (keeps b root p) q (rows b p) true e → Sought (valid b p) q e false v → o ≡ first_number w b p v
        → Alike (keeps b root (suc p)) x (rows b (suc p)) true o
    valid-told {e} {v} k s z =
        rw z (rows_told filled (omega (arith, k.high, s.high)) (record { at = λ j g m. rw (k.same.at j g (omega (arith, s.high)), s.passed.at j g m) }))
      where
        -- the row itself is valid
        filled : suc q ≤ v
        filled = dite (dec_le v q) (λ l. let z : v ≡ q = omega (arith, s.low) in absurd (true≢false (sym at.is_valid ∙ ap (valid b p) (sym z) ∙ s.here (omega (arith, k.some))))) (λ l. omega arith)
