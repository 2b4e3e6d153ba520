-- What stands once refusals 3 to 7 have not come: the table lies whole before the trailer, and each buffer in the body. Assumes nothing.
use Rattle.std.specs.Prelude.{ℕ, ◌+◌, ◌*◌, ◌≤◌, false, List, ◌≡◌, length}
use Rattle.format.specs.Node.{table_start, node_count}
use Rattle.format.specs.Verdict.{wrong_fields, wrong_tree, wrong_rows, wrong_buffers}

pub record Laid (b : List ℕ) : Type 0 where
  pub few : node_count b ≤ 64
  pub whole : table_start b + 40 * node_count b + 16 ≡ length b
  pub fields : wrong_fields b ≡ false
  pub tree : wrong_tree b ≡ false
  pub rowed : wrong_rows b ≡ false
  pub buffers : wrong_buffers b ≡ false
