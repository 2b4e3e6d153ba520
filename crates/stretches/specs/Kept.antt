-- The runs of a node's kept rows that an iterator over them has still to give. Assumes nothing.
use Rattle.std.specs.Prelude.{ℕ, ◌-◌, List, ◌≡◌}
use Rattle.format.specs.Slots.{runs_from}
use Rattle.nesting.specs.declared.Counted.{Counted}
use Rattle.stretches.specs.Stretches.{kept_in}
use Rattle.stretches.specs.declared.kept.KeptRuns.{KeptRuns}

abbrev pub runs_left : KeptRuns → List (ℕ × ℕ)
runs_left i = runs_from (kept_in i.stretches.counted i.node) (i.len - i.at) i.at

-- one at the node's first row
pub record Begun (c : Counted) (n : ℕ) (i : KeptRuns) : Type 0 where
  pub counted : i.stretches.counted ≡ c
  pub node : i.node ≡ n
  pub at : i.at ≡ 0
