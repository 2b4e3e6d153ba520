-- Where a node's validity bits stand. Assumes nothing.
use Rattle.std.specs.Prelude.{ℕ, ◌+◌, ◌*◌, cond, Option, Some, None, List}
use Rattle.format.specs.Node.{validity_at, has_no_bitmap, skip}

-- where row 0's validity bit of node i stands, if it has a bitmap
abbrev pub first_mark : List ℕ → ℕ → Option ℕ
first_mark b i = cond (has_no_bitmap b i) None (Some (8 * validity_at b i + skip b i))
