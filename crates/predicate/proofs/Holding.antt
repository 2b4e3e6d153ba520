-- A route's selection has the rows that the source picks, where the route is that of its count; and so has its list. Assumes nothing.
use Rattle.std.proofs.Common.{◌≡◌, ℕ, zero, suc, ◌+◌, ◌*◌, ◌≤◌, Bool, true, false, cond, ◌||◌, eqb, ltb, List, [], ◌∷◌, length, sym, refl, ap, ap₂, ◌∙◌, add-one, arith, eqb-true}
use Rattle.std.specs.Prelude.{Option, Some, None}
use denote.Ref.{Bor}
use Rattle.format.specs.declared.Route.{Route}
use Rattle.format.specs.declared.Route.TheVariants as route
use Rattle.format.specs.Mask.{route_of}
use Rattle.format.specs.Slots.{pick, picks_from, covered, starts_and_ends, All}
use Rattle.format.proofs.SlotLaws.{all_none, all_one, all_join, count-le, picks-all, runs-picks}
use Rattle.slots.specs.declared.Source.{Source}
use Rattle.slots.specs.Slot.{slot_in}
use Rattle.predicate.specs.declared.Selection.{Selection}
use Rattle.predicate.specs.declared.Selection.TheVariants.{Nothing, Everything, Words, Runs, Rows}
use Rattle.predicate.specs.Entries.{picks_by, picked}
use Rattle.predicate.specs.Selection.{selected, reach, Sourced, run_rows, rows_of, Selects}

-- ---- by the count

none_of : (xs : List ℕ) → length xs ≡ 0 → xs ≡ []
none_of [] e = refl
none_of (x ∷ xs) e = absurd (omega arith)

-- as many picks as slots: every slot
all_of : (p : ℕ → Bool) (n i : ℕ) → length (picks_from p n i) ≡ n → All p true i (i + n)
unfolding picks_from
all_of p zero i e = all_none (omega arith)
all_of p (suc n) i e = go (p i) refl e (all_of p n (suc i))
  where
    go : (t : Bool) → p i ≡ t → length (pick t i (picks_from p n (suc i))) ≡ suc n → (length (picks_from p n (suc i)) ≡ n → All p true (suc i) (suc i + n)) → All p true i (i + suc n)
    go true q e ih =
        let m : i + suc n ≡ suc i + n = omega arith in
        rw m (all_join (all_one q) (rw add-one (ih (omega arith))))
    go false q e ih = absurd (omega (arith, count-le p n (suc i)))

-- no slot, or no pick: nothing is picked
no-picks : (n c : ℕ) → (eqb n 0 || eqb c 0) ≡ true → c ≤ n → c ≡ 0
no-picks n c e h = go (eqb n 0) refl e
  where
    go : (t : Bool) → eqb n 0 ≡ t → (t || eqb c 0) ≡ true → c ≡ 0
    go true q e = let z : n ≡ 0 = eqb-true n 0 q in omega arith
    go false q e = eqb-true c 0 e

-- ---- a route's selection

-- row numbers have the picked rows by any count
pub rows-picked : (source : Source) (list : Option (Bor (List ℕ))) (sel : Selection) → Selects route.Indices source list sel → selected sel ≡ picked source
rows-picked source None sel s = ap selected s
rows-picked source (Some list) sel s = ap selected s.1 ∙ ap₂ (λ (b : Bor (List ℕ)) c. picks_by b.now c) s.2 s.3

by_runs : (source : Source) (list : Option (Bor (List ℕ))) (sel : Selection) → Selects route.Slices source list sel → selected sel ≡ picked source
by_runs source None sel s = ap selected s
by_runs source (Some list) sel s = ap selected s.1 ∙ ap₂ (λ (b : Bor (List ℕ)) c. picks_by b.now c) s.2 s.3

-- where the route is that of the count, its selection has the picked rows
pub selects-picked : (source : Source) (list : Option (Bor (List ℕ))) (sel : Selection) {c : ℕ} → c ≡ length (picked source) → Selects (route_of source.bits.len c) source list sel → selected sel ≡ picked source
unfolding route_of
selects-picked source list sel {c} is = go (eqb source.bits.len 0 || eqb c 0) (eqb c source.bits.len) (ltb (4 * source.bits.len) (5 * c)) refl refl
  where
    go : (t u v : Bool) → (eqb source.bits.len 0 || eqb c 0) ≡ t → eqb c source.bits.len ≡ u
        → Selects (cond t route.None (cond u route.All (cond v route.Slices route.Indices))) source list sel → selected sel ≡ picked source
    go true u v et eu s = ap selected s ∙ sym (none_of (picked source) (sym is ∙ no-picks source.bits.len c et (rw is (count-le (slot_in source) source.bits.len 0))))
    go false true v et eu s = ap selected s ∙ sym (picks-all (slot_in source) source.bits.len 0 (all_of (slot_in source) source.bits.len 0 (sym is ∙ eqb-true c source.bits.len eu)))
    go false false true et eu s = by_runs source list sel s
    go false false false et eu s = rows-picked source list sel s

-- all rows of a route's selection lie below the source's slots
pub reach-of : (r : Route) (source : Source) (list : Option (Bor (List ℕ))) (sel : Selection) → Selects r source list sel → reach sel ≤ source.bits.len
reach-of route.None source list sel s = rw s (omega arith)
reach-of route.All source list sel s = rw s (omega arith)
reach-of route.Slices source None sel s = rw s (omega arith)
reach-of route.Slices source (Some list) sel s = rw (s.1, s.3) (omega arith)
reach-of route.Indices source None sel s = rw s (omega arith)
reach-of route.Indices source (Some list) sel s = rw (s.1, s.3) (omega arith)

-- a route's selection over a source has its bits in the slice
pub sourced-of : (r : Route) (source : Source) (list : Option (Bor (List ℕ))) (sel : Selection) → Selects r source list sel → Sourced sel
sourced-of route.None source list sel s = rw s tt
sourced-of route.All source list sel s = rw s tt
sourced-of route.Slices source None sel s = rw s tt
sourced-of route.Slices source (Some list) sel s = rw (s.1, s.2, s.3) source.lies
sourced-of route.Indices source None sel s = rw s tt
sourced-of route.Indices source (Some list) sel s = rw (s.1, s.2, s.3) source.lies

-- ---- by every route the same rows

run-rows : (rs : List (ℕ × ℕ)) → run_rows (starts_and_ends rs) ≡ covered rs
unfolding run_rows starts_and_ends covered
run-rows [] = refl
run-rows (r ∷ rs) = rw (run-rows rs)

pub same_rows : (sel : Selection) → rows_of sel ≡ selected sel
same_rows Nothing = refl
same_rows (Everything n) = refl
same_rows (Words source) = refl
same_rows (Runs stored) = rw stored.holds (run-rows _ ∙ runs-picks _ stored.bits.len 0)
same_rows (Rows stored) = stored.holds
