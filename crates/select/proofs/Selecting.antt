-- A selection of the rows that a source picks; scratch that is as long as is needed, filled and cleared. Assumes nothing.
use Prim.Native.Nat.{ℕ, ◌/◌, ◌≤◌}
use mathlib.Core.Bool.{Bool, true, false, not, ◌&&◌}
use mathlib.Core.List.{List, append-nil}
use mathlib.Core.Path.{◌≡◌, refl, sym, ap, ◌∙◌}
use native.Mathlib.Omega.{arith}
use borrow.Author.Tests.{leb-true}
use denote.Ref.{Bor}
use lib.Dec.{leb}
use lib.ListN.{length, replicate, length-replicate}
use lib.Seq.{drop-length}
use Rattle.std.specs.Prelude.{Option}
use Rattle.format.specs.declared.Route.{Route}
use Rattle.format.specs.Bytes.{over}
use Rattle.format.specs.Answer.{scratch_needed}
use Rattle.format.specs.Node.{node_count}
use Rattle.format.proofs.Put.{same_size}
use Rattle.format.proofs.SlotLaws.{chosen-picks}
use Rattle.slots.specs.declared.Source.{Source}
use Rattle.predicate.specs.declared.Selection.{Selection}
use Rattle.predicate.specs.Selection.{selected, Selects}
use Rattle.predicate.proofs.Holding.{rows-picked, selects-picked}
use Rattle.format.specs.Accepted.{Sound}
use Rattle.nesting.specs.Rows.{picks_in}
use Rattle.fill.specs.Scratch.{Earlier, Filled}
use Rattle.fill.proofs.Filling.{scratch-few}
use Rattle.select.specs.Routed.{Goes, Few, by_count, by_rows}

-- the rows of a route's selection are those that the source picks
pub selects : {r : Route} {s : Source} → Goes r s → (list : Option (Bor (List ℕ))) (sel : Selection) → Selects r s list sel → selected sel ≡ picks_in s
selects (by_count {s}) list sel h = selects-picked s list sel (ap length (chosen-picks _ _)) h ∙ sym (chosen-picks _ _)
selects (by_rows {s}) list sel h = rows-picked s list sel h ∙ sym (chosen-picks _ _)

-- ---- filled and cleared

module _ {b root old new places : List ℕ} (f : Filled b root old new places) (all : length old ≡ scratch_needed b) where
  whole : length new ≡ scratch_needed b
  whole = same_size f.wrote ∙ all

  -- the bitmaps stand in it
  pub filled : Sound b → Earlier b root (node_count b) new places
  filled s = record { few = rw whole (scratch-few s); bitmaps = λ p l k. rw whole (f.bitmaps p l k) }

  -- zeros from end to end
  pub cleared : {last : List ℕ} {n : ℕ} → n ≡ length new → last ≡ over (replicate n 0) new → last ≡ replicate (length old) 0
  unfolding over
  cleared {last} {n} e l =
      let q : length new ≡ length old = same_size f.wrote in
      l ∙ rw (e, length-replicate, drop-length, append-nil, q)

-- ---- few rows, stored unasked

both : (t u : Bool) → (t && u) ≡ true → (t ≡ true) × (u ≡ true)
both true u e = (refl, e)
both false u e = let z : ◌≡◌ {A = ℕ} 0 1 = cc in absurd (omega arith)

not-asked : (t : Bool) → not t ≡ true → t ≡ false
not-asked true e = sym e
not-asked false e = refl

pub is-few : (asked x y z : Bool) (kept len : ℕ) → Few ((((not asked && x) && y) && z) && leb kept (len / 64)) asked kept len
is-few asked x y z kept len =
    record {
      unasked = λ e. not-asked asked (both (not asked) x (both (not asked && x) y (both ((not asked && x) && y) z (both (((not asked && x) && y) && z) (leb kept (len / 64)) e).0).0).0).0;
      few = λ e. let h : kept ≤ len / 64 = leb-true kept (len / 64) (both (((not asked && x) && y) && z) (leb kept (len / 64)) e).1 in omega arith;
    }
