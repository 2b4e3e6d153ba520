-- The length of an extract's body, from counts alone. Assumes nothing.
use Rattle.std.specs.Prelude.{ℕ, List}
use Rattle.format.specs.Kept.{kept_part}
use Rattle.format.specs.Size.{body_size, node_size_at}

-- the body's length after the first n nodes
abbrev pub body_end : List ℕ → List ℕ → ℕ → ℕ
body_end b root n = body_size (node_size_at (kept_part b root)) n
