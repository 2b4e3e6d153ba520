-- The buffers of a node's kept entries are what the column filters write, with the node's skip in the place of row 0. Assumes nothing.
use Prim.Native.Nat.{ℕ, ◌+◌, ◌*◌}
use mathlib.Core.Bool.{Bool}
use mathlib.Core.List.{List, map}
use mathlib.Core.Path.{◌≡◌, sym, ap}
use native.Mathlib.Omega.{arith}
use Rattle.format.specs.Kept.{first_entry, second_entry, entries, ranges}
use Rattle.format.specs.Node.{first_at, second_at, skip}
use Rattle.format.specs.Slots.{picks_from}
use Rattle.format.specs.Write.{holds, first, second}
use Rattle.format.proofs.RowLaws.{below-picks}
use Rattle.append.specs.Cells.{entries_of, Among}
use Rattle.append.proofs.NodeLaws.{first-entries, second-entries}

-- kept rows are among all rows
pub kept-among : {P : ℕ → Type 0} (p : ℕ → Bool) (len : ℕ) → P len → Among P (picks_from p len 0)
kept-among p len h = record { len = len; below = below-picks p len len 0 (omega arith); holds = h }

module _ (w : ℕ) (b : List ℕ) (i : ℕ) (rs : List ℕ) where
  -- entries, by `filter_native`
  pub first-of-entries : first (entries (map (first_entry w b i) rs)) ≡ holds (entries_of w b (first_at b i + w * skip b i) rs)
  unfolding first
  first-of-entries = ap holds (sym (first-entries w b i rs))

  -- the offsets and the sizes of list views
  module _ (sizes : List (List ℕ)) where
    pub first-of-ranges : first (ranges (map (first_entry w b i) rs) sizes) ≡ holds (entries_of w b (first_at b i + w * skip b i) rs)
    unfolding first
    first-of-ranges = ap holds (sym (first-entries w b i rs))

  module _ (starts : List (List ℕ)) where
    pub second-of-ranges : second (ranges starts (map (second_entry w b i) rs)) ≡ holds (entries_of w b (second_at b i + w * skip b i) rs)
    unfolding second
    second-of-ranges = ap holds (sym (second-entries w b i rs))
