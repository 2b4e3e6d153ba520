-- A column block by block: each block of kept rows writes the first of what is left, and stays in step with the selection. Assumes nothing.
use Prim.Native.Nat.{ℕ, ◌+◌, ◌≤◌}
use mathlib.Core.List.{List, [], ◌++◌, append-nil}
use mathlib.Core.Path.{◌≡◌, refl, sym, ap, ◌∙◌}
use lib.ListN.{length}
use Rattle.std.specs.Prelude.{Some, None}
use Rattle.format.specs.Put.{Wrote}
use Rattle.format.proofs.Put.{Left, whole, less, room, done, kept}
use Rattle.predicate.specs.declared.Selection.{Selection}
use Rattle.predicate.specs.declared.Block.{Block}
use Rattle.predicate.specs.declared.Blocks.{Blocks}
use Rattle.predicate.specs.Selection.{selected, reach}
use Rattle.predicate.specs.Blocks.{block_rows, rows_left, GoesOn, InStep, Begun, GivesBlock}
use Rattle.predicate.proofs.Steps.{rows-start, goes-start, step-start, next-goes-below, block-below}
use Rattle.append.specs.Cells.{Among}

-- the bytes of rows are those of the first rows, and then those of the others
pub record Cuts (f : List ℕ → List ℕ) : Type 0 where
  pub none : f [] ≡ []
  pub parts : (xs ys : List ℕ) → f (xs ++ ys) ≡ f xs ++ f ys

-- of the bytes f of all kept rows, those of the rows that the blocks have yet to give are left to write
pub record WalkedBy (Step : Blocks → Type 0) (f : List ℕ → List ℕ) (sel : Selection) (old : List ℕ) (at : ℕ) (new : List ℕ) (here : ℕ) (s : Blocks) : Type 0 where
  pub same : s.sel ≡ sel
  pub step : Step s
  pub left : Left old at (f (selected sel)) new here (f (rows_left s))

-- and the blocks are in step, or can go on
abbrev pub Walked : (List ℕ → List ℕ) → Selection → List ℕ → ℕ → List ℕ → ℕ → Blocks → Type 0
Walked f sel old at new here s = WalkedBy InStep f sel old at new here s

abbrev pub WalkedOn : (List ℕ → List ℕ) → Selection → List ℕ → ℕ → List ℕ → ℕ → Blocks → Type 0
WalkedOn f sel old at new here s = WalkedBy GoesOn f sel old at new here s

-- a block's rows are among all rows
pub among-on : {P : ℕ → Type 0} {sel : Selection} {s t : Blocks} {block : Block} → s.sel ≡ sel → GoesOn s → GivesBlock s (Some block) t → P (reach sel) → Among P (block_rows block)
among-on {sel = sel} same step g h = record { len = reach sel; below = rw (← same) (next-goes-below step g); holds = h }

pub among : {P : ℕ → Type 0} {sel : Selection} {s t : Blocks} {block : Block} → s.sel ≡ sel → InStep s → GivesBlock s (Some block) t → P (reach sel) → Among P (block_rows block)
among {sel = sel} same step g h = record { len = reach sel; below = rw (← same) (block-below step g); holds = h }

module _ {f : List ℕ → List ℕ} {sel : Selection} {old : List ℕ} {at : ℕ} where
  pub walk_none : {s : Blocks} → Begun sel s → Walked f sel old at old at s
  walk_none b = record { same = b.0; step = step-start b; left = whole refl (ap f (rows-start b)) }

  pub walk-on_none : {s : Blocks} → Begun sel s → WalkedOn f sel old at old at s
  walk-on_none b = record { same = b.0; step = goes-start b; left = whole refl (ap f (rows-start b)) }

  module _ {Step : Blocks → Type 0} {new : List ℕ} {here : ℕ} {s : Blocks} (w : WalkedBy Step f sel old at new here s) where
    module _ (cut : Cuts f) {block : Block} {t : Blocks} (g : GivesBlock s (Some block) t) where
      off : f (rows_left s) ≡ f (block_rows block) ++ f (rows_left t)
      off = ap f g.gives.1 ∙ cut.parts (block_rows block) (rows_left t)

      -- the bytes of a block's rows fit
      pub walk-room : at + length (f (selected sel)) ≤ length old → here + length (f (block_rows block)) ≤ length new
      walk-room fit = room (f (block_rows block)) (f (rows_left t)) w.left off fit

      -- and were written
      pub walk_more : {last : List ℕ} {next : ℕ} → Step t → Wrote new here (f (block_rows block)) last next → WalkedBy Step f sel old at last next t
      walk_more step wrote = record { same = g.same ∙ w.same; step = step; left = less w.left off wrote }

    -- all that is left fits
    pub walk-fits : at + length (f (selected sel)) ≤ length old → here + length (f (rows_left s)) ≤ length new
    walk-fits fit = room (f (rows_left s)) [] w.left (sym (append-nil (f (rows_left s)))) fit

    -- no row is left
    pub walk-done : {t : Blocks} → Cuts f → GivesBlock s None t → Wrote old at (f (selected sel)) new here
    walk-done cut g = done w.left (ap f g.gives ∙ cut.none) refl

    pub walk_same : length new ≡ length old
    walk_same = kept w.left
