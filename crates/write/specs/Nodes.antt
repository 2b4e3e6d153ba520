-- The first n nodes of an extract are written: the body at the front of the output, and their fields. Assumes nothing.
use Rattle.std.specs.Prelude.{ℕ, ◌*◌, List, ◌≡◌, length, take}
use Rattle.format.specs.Put.{Wrote}
use Rattle.format.specs.Kept.{columns, kept_part}
use Rattle.format.specs.Write.{numbers, written}

pub record NodesTo (b root : List ℕ) (n : ℕ) (old new : List ℕ) (next : ℕ) (fields : List ℕ) : Type 0 where
  pub body : Wrote old 0 (written (columns b) (kept_part b root) n).body new next
  pub nodes : numbers 4 (take (10 * n) fields) ≡ (written (columns b) (kept_part b root) n).nodes
  pub size : length fields ≡ 640
