-- Kept rows word by word or run by run of the mask, between two blocks. Assumes nothing.
use Prim.Native.Nat.{ℕ, suc, ◌+◌, ◌-◌, ◌*◌, ◌≤◌, ◌<◌}
use mathlib.Core.Bool.{Bool}
use mathlib.Core.List.{List, ◌++◌}
use mathlib.Core.Path.{◌≡◌, refl, sym, ap, ◌∙◌}
use native.Mathlib.Nat.{le_refl}
use native.Mathlib.Omega.{arith}
use lib.ListN.{length, take, set, length-append, length-set}
use lib.Seq.{length-take-le, take-suc-set}
use Rattle.format.specs.Put.{Wrote}
use Rattle.format.specs.Slots.{picks_from, count_up, word_from}
use Rattle.format.proofs.Put.{none, then, named, same_size, less}
use Rattle.format.proofs.RowLaws.{set-from, below-picks}
use Rattle.format.proofs.SlotLaws.{picks-cat, picks-none, all_none}
use Rattle.slots.specs.declared.Source.{Source}
use Rattle.slots.specs.Slot.{slot_in}
use Rattle.predicate.specs.declared.Selection.{Selection}
use Rattle.predicate.specs.declared.Selection.TheVariants.{Words}
use Rattle.predicate.specs.declared.Blocks.{Blocks}
use Rattle.predicate.specs.Blocks.{kept_by, picks_on, Inside, Ran}
use Rattle.predicate.proofs.Picks.{picks-run, picks-upto}
use Rattle.predicate.proofs.Steps.{step-inside, left-to}
use Rattle.append.specs.Cells.{word_rows, Among}
use Rattle.append.proofs.CellLaws.{words-none, words_last}
use Rattle.columns.specs.Words.{Ahead, Passed}
use Rattle.columns.proofs.Walk.{Cuts, WalkedBy, Walked, WalkedOn}

-- the bytes f of the rows kept from `place` up to row `to` were written
pub record Passing (f : List ℕ → List ℕ) (p : ℕ → Bool) (len place : ℕ) (old : List ℕ) (at : ℕ) (new : List ℕ) (here to : ℕ) : Type 0 where
  pub low : place ≤ to
  pub high : to ≤ len
  pub wrote : Wrote old at (f (picks_from p (to - place) place)) new here

-- no row yet
nothing : {f : List ℕ → List ℕ} (cut : Cuts f) (p : ℕ → Bool) (n i : ℕ) {old : List ℕ} {at : ℕ} → n ≡ 0 → Wrote old at (f (picks_from p n i)) old at
nothing {f} cut p n i e = none (ap f (picks-none p n i (all_none (omega arith))) ∙ cut.none) refl

pub pass-nothing : {f : List ℕ → List ℕ} {s : Blocks} {old : List ℕ} {at : ℕ} → Cuts f → Passed f s old at old at s
pass-nothing {s = s} cut = record { same = refl; on = le_refl s.place; step = λ h. h; stays = λ h. h; wrote = nothing cut (kept_by s.sel) _ _ (omega arith) }

pub pass-none : {f : List ℕ → List ℕ} {p : ℕ → Bool} {len place to : ℕ} {old : List ℕ} {at : ℕ} → Cuts f → to ≡ place → place ≤ len → Passing f p len place old at old at to
pass-none {p = p} cut e h = record { low = omega arith; high = omega arith; wrote = nothing cut p _ _ (omega arith) }

-- more rows: xs are those kept from row i up to row v
module _ {f : List ℕ → List ℕ} (cut : Cuts f) {p : ℕ → Bool} {len place : ℕ} {old : List ℕ} {at : ℕ} {new : List ℕ} {here i v : ℕ} {xs : List ℕ}
    (k : Passing f p len place old at new here i) (low : i ≤ v) (high : v ≤ len) (are : xs ≡ picks_from p (v - i) i) where
  pub pass-room : at + length (f (picks_on p len place)) ≤ length old → here + length (f xs) ≤ length new
  pass-room fit =
      let all = ap f (picks-upto p len place i k.low k.high) ∙ cut.parts (picks_from p (i - place) place) (picks_on p len i) in
      let more = ap f (picks-upto p len i v low high) ∙ cut.parts (picks_from p (v - i) i) (picks_on p len v) in
      let a = ap length all ∙ length-append (f (picks_from p (i - place) place)) (f (picks_on p len i)) in
      let b = ap length more ∙ length-append (f (picks_from p (v - i) i)) (f (picks_on p len v)) in
      let c = ap (λ (l : List ℕ). length (f l)) are in
      omega (arith, k.wrote.place, same_size k.wrote, a, b, c, fit)

  pub pass-among : {P : ℕ → Type 0} → P len → Among P xs
  pass-among h = record { len = len; below = rw are (below-picks p len (v - i) i (omega arith)); holds = h }

  pub pass-more : {last : List ℕ} {next : ℕ} → Wrote new here (f xs) last next → Passing f p len place old at last next v
  pass-more wrote =
      let start = k.low in
      let n : v - place ≡ (i - place) + (v - i) = omega arith in
      let to : place + (i - place) ≡ i = omega arith in
      let rows : picks_from p (v - place) place ≡ picks_from p (i - place) place ++ xs = rw (n, picks-cat, to, are) in
      record { low = omega arith; high = high; wrote = named (then k.wrote wrote) (sym (ap f rows ∙ cut.parts (picks_from p (i - place) place) xs)) }

-- words of the mask
pub ahead_none : (p : ℕ → Bool) (len from : ℕ) (xs : List ℕ) → 64 * from ≤ len → Ahead p len from xs 0
ahead_none p len from xs h =
    record { few = omega arith; inside = omega arith; rows = words-none (64 * from) _ refl ∙ sym (picks-none p _ (64 * from) (all_none (omega arith))) }

pub ahead_more : {p : ℕ → Bool} {len from : ℕ} {xs : List ℕ} {n x m : ℕ} → Ahead p len from xs n → n < length xs → 64 * (from + n) + 64 ≤ len → x ≡ word_from p 64 (64 * (from + n)) → m ≡ n + 1
    → Ahead p len from (set xs n x) m
ahead_more {p} {len} {from} {xs} {n} {x} {m} a l h is e =
    let one : m ≡ suc n = omega arith in
    let size : length (take n xs) ≡ n = length-take-le n xs a.few in
    let at : 64 * from + 64 * n ≡ 64 * (from + n) = omega arith in
    let slots : 64 * m ≡ 64 * n + 64 = omega arith in
    record {
      few = rw length-set (omega arith);
      inside = omega arith;
      rows = rw (one, take-suc-set xs n x l, words_last, size, at, is, set-from, a.rows, ← one, slots, picks-cat, at);
    }

pub ahead-rows : {p : ℕ → Bool} {len from n v : ℕ} {xs : List ℕ} → Ahead p len from xs n → v ≡ 64 * (from + n) → word_rows (64 * from) (take n xs) ≡ picks_from p (v - 64 * from) (64 * from)
ahead-rows {p} {from = from} a e = a.rows ∙ ap (λ (m : ℕ). picks_from p m (64 * from)) (omega arith)

-- a run of it
module _ {f : List ℕ → List ℕ} (cut : Cuts f) {p : ℕ → Bool} {len place : ℕ} {old : List ℕ} {at : ℕ} {new : List ℕ} {here to a e : ℕ} (k : Passing f p len place old at new here to) (r : Ran p len to a e) where
  forward : to ≤ e
  forward = let low = r.low in let some = r.some in omega arith

  run-rows : count_up (e - a) a ≡ picks_from p (e - to) to
  run-rows = let some = r.some in sym (picks-run r.low (omega arith) r.before r.within)

  pub run_room : at + length (f (picks_on p len place)) ≤ length old → here + length (f (count_up (e - a) a)) ≤ length new
  run_room = pass-room cut k forward r.high run-rows

  pub run_more : {last : List ℕ} {next : ℕ} → Wrote new here (f (count_up (e - a) a)) last next → Passing f p len place old at last next e
  run_more = pass-more cut k forward r.high run-rows

-- up to where the blocks of the mask's words may stand
pub pass-done : {f : List ℕ → List ℕ} {source : Source} {s t : Blocks} {old : List ℕ} {at : ℕ} {new : List ℕ} {here : ℕ} → s.sel ≡ Words source → t.sel ≡ s.sel
    → Passing f (slot_in source) source.bits.len s.place old at new here t.place → Passed f s old at new here t
pass-done {t = t} is same k =
    let low = k.low in
    let words : t.sel ≡ Words _ = same ∙ is in
    record {
      same = same;
      on = low;
      step = λ h. record { inside = rw words k.high; agrees = rw words tt };
      stays = λ h. record { inside = rw words k.high; agrees = rw words tt };
      wrote = rw is k.wrote;
    }

-- ---- for the loop over blocks

walk-by : {Step : Blocks → Type 0} {f : List ℕ → List ℕ} (cut : Cuts f) {sel : Selection} {old : List ℕ} {at : ℕ} {new : List ℕ} {here : ℕ} {s : Blocks} → WalkedBy Step f sel old at new here s
    → {last : List ℕ} {next : ℕ} {t : Blocks} → Passed f s new here last next t → Step t → Inside t.sel t.place → WalkedBy Step f sel old at last next t
walk-by {f = f} cut {s = s} w {t = t} q step inside =
    record { same = q.same ∙ w.same; step = step; left = less w.left (ap f (left-to s t q.same q.on inside) ∙ cut.parts _ _) q.wrote }

pub walk-on : {f : List ℕ → List ℕ} (cut : Cuts f) {sel : Selection} {old : List ℕ} {at : ℕ} {new : List ℕ} {here : ℕ} {s : Blocks} → Walked f sel old at new here s
    → {last : List ℕ} {next : ℕ} {t : Blocks} → Passed f s new here last next t → Walked f sel old at last next t
walk-on cut w q = walk-by cut w q (q.stays w.step) (step-inside (q.stays w.step))

pub walk-goes-on : {f : List ℕ → List ℕ} (cut : Cuts f) {sel : Selection} {old : List ℕ} {at : ℕ} {new : List ℕ} {here : ℕ} {s : Blocks} → WalkedOn f sel old at new here s
    → {last : List ℕ} {next : ℕ} {t : Blocks} → Passed f s new here last next t → WalkedOn f sel old at last next t
walk-goes-on cut w q = let step = q.step w.step in walk-by cut w q step step.inside
