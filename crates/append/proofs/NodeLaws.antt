-- A node's kept entries are what the writers write, as the kept part names them. Assumes nothing.
use Prim.Native.Nat.{ℕ, ◌+◌, ◌*◌}
use mathlib.Core.Path.{◌≡◌, refl, ap}
use mathlib.Core.List.{List, map, map_congr_left}
use native.Mathlib.Nat.{mul-add}
use native.Mathlib.Omega.{arith}
use Rattle.format.specs.Bytes.{join}
use Rattle.format.specs.Node.{first_at, second_at, skip}
use Rattle.format.specs.Kept.{first_entry, second_entry}
use Rattle.format.proofs.Numbers.{bytes_same}
use Rattle.append.specs.Cells.{entry, entries_of}

-- ---- the cells of node i, with the skip in the place of row 0

module _ (w : ℕ) (b : List ℕ) (i : ℕ) where
  first_entry-is : (r : ℕ) → entry w b (first_at b i + w * skip b i) r ≡ first_entry w b i r
  unfolding entry first_entry
  first_entry-is r = bytes_same b _ _ w w (omega (arith, mul-add w (skip b i) r)) refl

  second-entry : (r : ℕ) → entry w b (second_at b i + w * skip b i) r ≡ second_entry w b i r
  unfolding entry second_entry
  second-entry r = bytes_same b _ _ w w (omega (arith, mul-add w (skip b i) r)) refl

  pub first-entries : (rs : List ℕ) → entries_of w b (first_at b i + w * skip b i) rs ≡ join (map (first_entry w b i) rs)
  unfolding entries_of
  first-entries rs = ap join (map_congr_left {l = rs} (λ r _. first_entry-is r))

  pub second-entries : (rs : List ℕ) → entries_of w b (second_at b i + w * skip b i) rs ≡ join (map (second_entry w b i) rs)
  unfolding entries_of
  second-entries rs = ap join (map_congr_left {l = rs} (λ r _. second-entry r))
