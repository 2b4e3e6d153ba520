-- A column of own bytes block by block: what the writer of each block asks, and the rebuilt offsets, which carry a sum. Assumes nothing.
use Prim.Native.Nat.{ℕ, ◌+◌, ◌*◌, ◌^◌, ◌≤◌, ◌<◌}
use mathlib.Core.List.{List, [], ◌++◌}
use mathlib.Core.Path.{◌≡◌, refl, sym, ap, ◌∙◌}
use native.Mathlib.Nat.{zero-add}
use native.Mathlib.Omega.{arith}
use lib.ListN.{length, get_or, length-append}
use Rattle.std.specs.Prelude.{Some}
use Rattle.format.specs.Bytes.{to_le}
use Rattle.format.specs.Put.{Wrote}
use Rattle.format.specs.Write.{numbers, offsets}
use Rattle.format.proofs.Measure.{length-to_le}
use Rattle.format.proofs.Numbers.{le-lt, numbers-append}
use Rattle.format.proofs.Put.{less, room, then, named, same_size}
use Rattle.format.proofs.SlotLaws.{chosen-picks}
use Rattle.predicate.specs.declared.Selection.{Selection}
use Rattle.predicate.specs.declared.Block.{Block}
use Rattle.predicate.specs.declared.Block.TheVariants.{Run}
use Rattle.predicate.specs.declared.Blocks.{Blocks}
use Rattle.predicate.specs.Selection.{selected, reach}
use Rattle.predicate.specs.Blocks.{kept_by, block_rows, rows_left, Begun, GivesBlock}
use Rattle.predicate.proofs.Steps.{rows-start}
use Rattle.append.specs.Cells.{Among}
use Rattle.append.proofs.CellLaws.{RowsLeft, rows-all, part-needs, part-more, rows-done, among-left, among-right}
use Rattle.texts.specs.declared.OwnBytes.{OwnBytes}
use Rattle.texts.specs.Texts.{offset, sizes_of, ends_from, total_of, Offsets}
use Rattle.texts.specs.Own.{Have, own_of}
use Rattle.texts.proofs.TextLaws.{texts-none, texts-append, texts-fewer, offsets-fewer, sizes-append, total-append, ends-append, numbers-offsets, rises, Ending, begins, ended}
use Rattle.texts.proofs.NodeLaws.{total-chosen}
use Rattle.text_columns.proofs.Blocks.{among-all, selected-kept}

-- ---- own bytes

-- those of the rows that are left are still to be written
pub record Walked (own : OwnBytes) (sel : Selection) (old : List ℕ) (at : ℕ) (new : List ℕ) (here : ℕ) (s : Blocks) : Type 0 where
  pub same : s.sel ≡ sel
  pub rows : RowsLeft (Have own) (own_of own) (selected sel) old at new here (rows_left s)

module _ {own : OwnBytes} {sel : Selection} {old : List ℕ} {at : ℕ} where
  pub walk-none : {s r : Blocks} → Have own (reach sel) → Begun sel r → s ≡ r → Walked own sel old at old at s
  walk-none h b e = rw e (record { same = b.0; rows = rows-all (among-all sel h) (rows-start b) })

  module _ {new : List ℕ} {here : ℕ} {s : Blocks} (k : Walked own sel old at new here s) where
    module _ {b : Block} {t : Blocks} (g : GivesBlock s (Some b) t) where
      pub walk-needs : at + length (own_of own (selected sel)) ≤ length old → Among (Have own) (block_rows b) × (here + length (own_of own (block_rows b)) ≤ length new)
      walk-needs fit = part-needs k.rows (block_rows b) (rows_left t) g.gives.1 (texts-append _ _ _ (block_rows b) (rows_left t)) fit

      pub walk-more : {last : List ℕ} {next : ℕ} → Wrote new here (own_of own (block_rows b)) last next → Walked own sel old at last next t
      walk-more wrote = record { same = g.same ∙ k.same; rows = part-more k.rows (block_rows b) (rows_left t) g.gives.1 (texts-append _ _ _ (block_rows b) (rows_left t)) wrote }

    pub walk-done : rows_left s ≡ [] → Wrote old at (own_of own (selected sel)) new here
    walk-done e = rows-done k.rows (texts-none _ _ _ _ e)

    -- a block that is a run lies among the rows
    pub walk-run : {a e : ℕ} {t : Blocks} → GivesBlock s (Some (Run a e)) t → Have own (reach sel) → (a ≤ e) × Have own e
    walk-run {a} {e} g h = let w = rw k.same at g.gives.0 in (w.0, texts-fewer e w.1 h)

-- ---- rebuilt offsets

-- the sizes of rows add up to what lies between the first offset and the last at most
module _ (w : ℕ) (b : List ℕ) (first : ℕ) (small : (i : ℕ) → get_or b i 0 < 256) where
  pub total-lt : (sel : Selection) → Offsets w b first (reach sel) → total_of (sizes_of (offset w b first) (selected sel)) < 256 ^ w
  unfolding offset
  total-lt sel h =
      let whole = rw (chosen-picks (kept_by sel) (reach sel), ← selected-kept sel) at (total-chosen (offset w b first) (kept_by sel) (reach sel) (rises h)) in
      omega (arith, whole, le-lt w b (first + w * reach sel) small)

-- the first offset is 0; behind it stands where the rows end
module _ (w : ℕ) (sizes : List ℕ) where
  length-offsets : length (numbers w (offsets sizes)) ≡ w + length (numbers w (ends_from 0 sizes))
  length-offsets =
      ap length (numbers-offsets w sizes)
      ∙ length-append (to_le w 0) (numbers w (ends_from 0 sizes))
      ∙ ap (◌+ length (numbers w (ends_from 0 sizes))) (length-to_le w 0)

  -- there is room for it
  pub zero-fits : (at n : ℕ) → at + length (numbers w (offsets sizes)) ≤ n → at + w ≤ n
  zero-fits at n fit = omega (arith, length-offsets)

  module _ {old : List ℕ} {at : ℕ} {mid : List ℕ} {next : ℕ} (wrote : Wrote old at (to_le w 0) mid next) where
    -- and for the ends
    pub ends-fit : at + length (numbers w (offsets sizes)) ≤ length old → next + length (numbers w (ends_from 0 sizes)) ≤ length mid
    ends-fit fit = omega (arith, length-offsets, wrote.place, length-to_le w 0, same_size wrote)

    pub offsets-done : {new : List ℕ} {last : ℕ} → Wrote mid next (numbers w (ends_from 0 sizes)) new last → Wrote old at (numbers w (offsets sizes)) new last
    offsets-done more = named (then wrote more) (sym (numbers-offsets w sizes))

-- of where all rows end, it is left to write where the rows that are left end; the row before them ends at `sum`
pub record Summed (w : ℕ) (o : ℕ → ℕ) (P : ℕ → Type 0) (sel : Selection) (old : List ℕ) (at : ℕ) (new : List ℕ) (here sum : ℕ) (s : Blocks) : Type 0 where
  pub same : s.sel ≡ sel
  pub among : Among P (rows_left s)
  pub ending : Ending w o 0 (selected sel) old at new here sum (rows_left s)

module _ {w : ℕ} {o : ℕ → ℕ} {P : ℕ → Type 0} {sel : Selection} {old : List ℕ} {at : ℕ} where
  pub sum-none : {s r : Blocks} → P (reach sel) → Begun sel r → s ≡ r → Summed w o P sel old at old at 0 s
  sum-none h b e = rw e (record { same = b.0; among = rw (rows-start b) (among-all sel h); ending = rw (rows-start b) begins })

  module _ {new : List ℕ} {here sum : ℕ} {s : Blocks} (k : Summed w o P sel old at new here sum s) where
    module _ {b : Block} {t : Blocks} (g : GivesBlock s (Some b) t) where
      -- the sizes of a block's rows, and those of the rows behind it
      sizes-off : sizes_of o (rows_left s) ≡ sizes_of o (block_rows b) ++ sizes_of o (rows_left t)
      sizes-off = ap (sizes_of o) g.gives.1 ∙ sizes-append o (block_rows b) (rows_left t)

      total-off : total_of (sizes_of o (rows_left s)) ≡ total_of (sizes_of o (block_rows b)) + total_of (sizes_of o (rows_left t))
      total-off = ap total_of sizes-off ∙ total-append (sizes_of o (block_rows b)) (sizes_of o (rows_left t))

      ends-off : numbers w (ends_from sum (sizes_of o (rows_left s)))
          ≡ numbers w (ends_from sum (sizes_of o (block_rows b))) ++ numbers w (ends_from (sum + total_of (sizes_of o (block_rows b))) (sizes_of o (rows_left t)))
      ends-off =
          ap (λ (l : List ℕ). numbers w (ends_from sum l)) sizes-off
          ∙ ap (numbers w) (ends-append sum (sizes_of o (block_rows b)) (sizes_of o (rows_left t)))
          ∙ numbers-append w (ends_from sum (sizes_of o (block_rows b))) _

      pub sum_among : Among P (block_rows b)
      sum_among = among-left (block_rows b) (rows_left t) k.among g.gives.1

      -- the block's last end is below any number that the sum of all sizes is below, and its ends fit
      pub sum_fits : (m : ℕ) → total_of (sizes_of o (selected sel)) < m → at + length (numbers w (ends_from 0 (sizes_of o (selected sel)))) ≤ length old
          → (sum + total_of (sizes_of o (block_rows b)) < m) × (here + length (numbers w (ends_from sum (sizes_of o (block_rows b)))) ≤ length new)
      sum_fits m l fit = (omega (arith, k.ending.sums, total-off), room (numbers w (ends_from sum (sizes_of o (block_rows b)))) _ k.ending.left ends-off fit)

      -- they were written
      pub sum_more : {last : List ℕ} {next more : ℕ} → Wrote new here (numbers w (ends_from sum (sizes_of o (block_rows b)))) last next → more ≡ sum + total_of (sizes_of o (block_rows b))
          → Summed w o P sel old at last next more t
      sum_more wrote q = record {
        same = g.same ∙ k.same;
        among = among-right (block_rows b) (rows_left t) k.among g.gives.1;
        ending = record {
          sums = omega (arith, k.ending.sums, total-off);
          left = rw q (less k.ending.left ends-off wrote);
        };
      }

    -- no row is left
    pub sum_done : rows_left s ≡ [] → Wrote old at (numbers w (ends_from 0 (sizes_of o (selected sel)))) new here × (sum ≡ total_of (sizes_of o (selected sel)))
    sum_done e = let r = ended k.ending e refl in (r.0, r.1 ∙ zero-add (total_of (sizes_of o (selected sel))))

-- a block that is a run lies among the rows
pub sum-run : {w : ℕ} {b : List ℕ} {first : ℕ} {sel : Selection} {old : List ℕ} {at : ℕ} {new : List ℕ} {here sum : ℕ} {s : Blocks} {a e : ℕ} {t : Blocks}
    → Summed w (offset w b first) (Offsets w b first) sel old at new here sum s → GivesBlock s (Some (Run a e)) t → Offsets w b first (reach sel) → (a ≤ e) × Offsets w b first e
sum-run {e = e} k g h = let l = rw k.same at g.gives.0 in (l.0, offsets-fewer e l.1 h)
