-- A range gives the rows from its start on. Assumes nothing.
use Rattle.std.proofs.Common.{◌≡◌, ℕ, ◌+◌, ◌-◌, Option, Some, None, arith}
use Rattle.std.specs.Iterator.{YieldsFirst}
use Rattle.std.specs.Range.{range_steps}
use Rattle.std.specs.declared.ops.Range.{Range}
use Rattle.format.specs.Slots.{count_up}
use Rattle.format.proofs.RowLaws.{up_none, up_more}

pub range-gives : (s : Range ℕ) (r : Option ℕ) (t : Range ℕ) → range_steps (λ x y. y - x) (λ x y. y ≡ x + 1) s r t → YieldsFirst (λ q. count_up (q.end - q.start) q.start) s r t
range-gives s None t (e, (none, same)) = (up_none _ _ none, up_none _ _ (rw (e, same) none))
range-gives s (Some x) t (e, (some, first, next)) = rw first (up_more (s.end - s.start) (t.end - t.start) s.start t.start (omega arith) next)
