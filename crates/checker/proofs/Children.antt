-- Refusal 6 on the nodes below the root, by the parents that the walk's array has for them. Assumes nothing.
use Prim.Native.Nat.{ℕ, ◌-◌}
use mathlib.Core.Bool.{Bool, not, ◌&&◌, ◌||◌}
use mathlib.Core.List.{List}
use mathlib.Core.Path.{◌≡◌, ◌∙◌}
use lib.Dec.{eqb}
use lib.ListN.{get_or}
use Rattle.std.specs.List.{list_any, range_with_len}
use Rattle.format.specs.Node.{node_count, rows, of_kind}
use Rattle.format.specs.Verdict.{any_child, bad_child_rows}
use Rattle.content.proofs.Fold.{any-ext}
use Rattle.pack.specs.Tree.{Parents}
use Rattle.pack.proofs.Ranges.{any-later}

-- node i is a child of p and has other rows, where that matters
abbrev pub other_rows : List ℕ → ℕ → ℕ → Bool
other_rows b i p = (of_kind 10 b p || of_kind 11 b p) && not (eqb (rows b i) (rows b p))

pub children-are : (b parents : List ℕ) → Parents b parents
    → list_any (λ i. other_rows b i (get_or parents i 0)) (range_with_len 1 (node_count b - 1)) ≡ any_child b (bad_child_rows b)
unfolding bad_child_rows
children-are b parents above = any-later _ _ ∙ any-ext _ _ (node_count b) (λ i l. rw (above.at i l))
