-- Kept rows taken from the mask's words, between two blocks of a selection. Assumes nothing.
use Rattle.std.specs.Prelude.{ℕ, ◌+◌, ◌-◌, ◌*◌, ◌≤◌, Bool, List, ◌≡◌, length, take}
use Rattle.format.specs.Put.{Wrote}
use Rattle.format.specs.Slots.{picks_from}
use Rattle.predicate.specs.declared.Blocks.{Blocks}
use Rattle.predicate.specs.Blocks.{kept_by, GoesOn, InStep}
use Rattle.append.specs.Cells.{word_rows}

-- the bytes f of the rows kept from the place of s up to that of t were written; blocks that can go on still can, and those in step stay so
pub record Passed (f : List ℕ → List ℕ) (s : Blocks) (old : List ℕ) (at : ℕ) (new : List ℕ) (next : ℕ) (t : Blocks) : Type 0 where
  pub same : t.sel ≡ s.sel
  pub on : s.place ≤ t.place
  pub step : GoesOn s → GoesOn t
  pub stays : InStep s → InStep t
  pub wrote : Wrote old at (f (picks_from (kept_by s.sel) (t.place - s.place) s.place)) new next

-- at the front of xs stand n words of the slots that pass p, from word `from` on: the rows at their set bits are those picked
pub record Ahead (p : ℕ → Bool) (len from : ℕ) (xs : List ℕ) (n : ℕ) : Type 0 where
  pub few : n ≤ length xs
  pub inside : 64 * (from + n) ≤ len
  pub rows : word_rows (64 * from) (take n xs) ≡ picks_from p (64 * n) (64 * from)
