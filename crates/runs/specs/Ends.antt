-- The run ends of a runs node grouped by the rows that are kept. Assumes nothing.
use Rattle.std.specs.Prelude.{ℕ, List}
use Rattle.runs.specs.declared.run_ends.RunEnds.{RunEnds}
use Rattle.runs.specs.Groups.{size_at, end_bytes}

-- how many of the rows rs lie in run j
abbrev pub sizes : RunEnds → List ℕ → ℕ → ℕ
sizes r rs = size_at r.width r.bytes.now r.first r.skip rs

-- the ends of the runs that have one of them or more
abbrev pub kept_ends : RunEnds → List ℕ → List ℕ
kept_ends r rs = end_bytes r.width (sizes r rs) r.count
