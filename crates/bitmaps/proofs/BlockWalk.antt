-- A bitmap column block by block: what is packed and what is left make up the column. Assumes nothing.
use Prim.Native.Nat.{ℕ, ◌+◌, ◌≤◌}
use mathlib.Core.Path.{◌≡◌, sym, ap, ap₂, ◌∙◌}
use mathlib.Core.Bool.{Bool, false, false≢true}
use mathlib.Core.List.{List, [], ◌++◌, map, map-append, append_assoc, append-nil}
use native.Mathlib.Omega.{arith}
use lib.ListN.{length, length-append, length-map}
use native.Mathlib.Nat.{zero-add}
use Rattle.std.specs.Borrow.{Bor}
use Rattle.std.specs.Prelude.{Option, Some, None}
use Rattle.std.specs.Option.{is_some}
use Rattle.format.specs.Bytes.{table, bytes_for, packed}
use Rattle.format.specs.Slots.{picks_from, All}
use Rattle.format.proofs.SlotLaws.{picks-none}
use Rattle.format.proofs.Measure.{length-packed}
use Rattle.slots.specs.declared.Bits.{Bits}
use Rattle.slots.specs.declared.Source.{Source}
use Rattle.predicate.specs.declared.Selection.{Selection}
use Rattle.predicate.specs.declared.Selection.TheVariants.{Nothing, Everything, Words, Runs, Rows}
use Rattle.predicate.specs.Entries.{picks_by, picked}
use Rattle.predicate.specs.Selection.{selected, reach}
use Rattle.bitmaps.specs.declared.Bitmap.{Bitmap}
use Rattle.bitmaps.specs.Push.{Room, Packs, Adds, Compressed}
use Rattle.bitmaps.proofs.PushLaws.{packs-room}

none-some : {A : Type 0} {x : A} → ◌≡◌ {A = Option A} (Some x) None → ⊥
none-some e = false≢true (sym (ap is_some e))

-- of the bits q of the rows all, those of the rows left are still to be packed
pub record Walked (q : ℕ → Bool) (all : List ℕ) (old : List ℕ) (at : ℕ) (to : Bitmap) (left : List ℕ) : Type 0 where
  pub done : List Bool
  pub packs : Packs done old at to
  pub rest : done ++ map q left ≡ map q all

module _ {q : ℕ → Bool} {all old : List ℕ} {at : ℕ} where
  pub walk_none : {to : Bitmap} {left : List ℕ} → Packs [] old at to → left ≡ all → Walked q all old at to left
  walk_none p e = record { done = []; packs = p; rest = ap (map q) e }

  module _ {from : Bitmap} {left : List ℕ} (w : Walked q all old at from left) (xs next : List ℕ) (off : left ≡ xs ++ next) where
    -- a block's rows were added
    pub walk_more : {to : Bitmap} → Adds (map q xs) from to → Walked q all old at to next
    walk_more a = record {
      done = w.done ++ map q xs;
      packs = a.more w.packs;
      rest = append_assoc w.done (map q xs) (map q next) ∙ ap (w.done ++◌) (sym (map-append q xs next) ∙ ap (map q) (sym off)) ∙ w.rest;
    }

    -- they fit
    pub walk-room : (n : ℕ) → n ≡ length xs → at + length (packed (map q all)) ≤ length old → Room from n
    walk-room n k fit =
        let size = length-packed (map q all) in
        let sum = ap length (sym w.rest) ∙ length-append w.done (map q left) ∙ ap (length w.done +◌) (length-map left q) in
        let parts = ap length off ∙ length-append xs next in
        packs-room w.packs n (length (map q all)) (omega arith) (rw (← size) fit)

  -- none is left
  pub walk-done : {from : Bitmap} {left : List ℕ} → Walked q all old at from left → left ≡ [] → Packs (map q all) old at from
  walk-done w e = rw (sym (append-nil w.done) ∙ ap (λ (l : List ℕ). w.done ++ map q l) (sym e) ∙ w.rest) at w.packs

-- where nothing is kept no bit is written
pub nothing-packed : (q p : ℕ → Bool) (len : ℕ) → All p false 0 len → packed (map q (picks_from p len 0)) ≡ []
unfolding packed table bytes_for
nothing-packed q p len h = rw (picks-none p len 0 (rw zero-add h))

-- the source that a column is compressed by picks the selection's rows
pub by-compress : (sel : Selection) (count : ℕ) (source : Source) → Compressed sel count (Some source) → (picked source ≡ selected sel) × (source.bits.len ≡ reach sel)
by-compress Nothing count source h = absurd (none-some h)
by-compress (Everything n) count source h = absurd (none-some h)
by-compress (Words s) count source h = (ap₂ (λ (s : Bor (List ℕ)) (b : Bits). picks_by s.now b) h.1 h.2, ap (λ (b : Bits). b.len) h.2)
by-compress (Runs stored) count source h = (ap₂ (λ (s : Bor (List ℕ)) (b : Bits). picks_by s.now b) h.1 h.2, ap (λ (b : Bits). b.len) h.2)
by-compress (Rows stored) count source h = (ap₂ (λ (s : Bor (List ℕ)) (b : Bits). picks_by s.now b) h.1 h.2, ap (λ (b : Bits). b.len) h.2)
