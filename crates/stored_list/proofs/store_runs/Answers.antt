-- `stored_list::store_runs` meets its contract: each run that is given is the next to store. Assumes nothing.
use Rattle.std.proofs.Common.{◌≡◌, ◌<◌, ◌≤◌, ◌+◌, ◌^◌, [], ◌∷◌, length, refl, ap, ◌∙◌, arith, length-set}
use native.Mathlib.Nat.{sub-zero}
use Rattle.format.specs.Slots.{starts_and_ends}
use Rattle.format.proofs.Put.{whole, stored, room, done, kept}
use Rattle.slices.specs.Reader.{runs_left}
use Rattle.slices.proofs.Yields.{gives-first, left-some, left-none}
use Rattle.stored_list.proofs.store_runs.Goals as goal
use Rattle.stored_list.proofs.store_runs.Goals.{In-Some}

pub loop-start-init : goal.loop-start-init
loop-start-init c =
    let e = c.into_iter-start-iterator.ensures.into_iter_gives ∙ c.new-start-items.ensures in
    rw e (c.args.source.lies, c.requires.0, whole refl (rw sub-zero))

-- the run's start and end are the next to store
first_off : (c : In-Some) → starts_and_ends (runs_left c.loop-start.start-iterator) ≡ c.in-Some.start ∷ c.in-Some.end ∷ starts_and_ends (runs_left c.next.new.self)
unfolding starts_and_ends
first_off c = ap starts_and_ends (left-some _ _ _ c.in-Some.ensures.steps)

small : (c : In-Some) → (c.in-Some.start < 2 ^ 32) × (c.in-Some.end < 2 ^ 32)
small c = let f = gives-first _ _ _ c.in-Some.ensures.steps in (omega (arith, f.filled, f.high), omega (arith, f.high))

-- there is a place for both
fits : (c : In-Some) → c.loop-start.here + 2 ≤ length c.loop-start.list
fits c = room (_ ∷ _ ∷ []) (starts_and_ends _) c.loop-start.invariant.2 (first_off c) (omega arith)

pub loop-start-preserved : goal.loop-start-preserved
loop-start-preserved c =
    (c.in-Some.ensures.goes.keeps, rw c.in-Some.ensures.steps.1 c.loop-start.invariant.1, stored (stored c.loop-start.invariant.2 (first_off c) refl) refl (omega arith))

pub overflow_cast-list : goal.overflow_cast-list
overflow_cast-list c = omega (arith, (small c).0)

pub overflow_cast-list-in-loop-start : goal.overflow_cast-list-in-loop-start
overflow_cast-list-in-loop-start c = omega (arith, (small c).1)

pub offset_bounds-list-here : goal.offset_bounds-list-here
offset_bounds-list-here c = omega (arith, fits c, kept c.loop-start.invariant.2)

pub bounds-list-here : goal.bounds-list-here
bounds-list-here c = omega (arith, fits c)

pub overflow_add-list : goal.overflow_add-list
overflow_add-list c = omega (arith, fits c)

pub offset_bounds-list-here-in-loop-start : goal.offset_bounds-list-here-in-loop-start
offset_bounds-list-here-in-loop-start c = omega (arith, fits c, kept c.loop-start.invariant.2)

pub bounds-list-here-in-loop-start : goal.bounds-list-here-in-loop-start
bounds-list-here-in-loop-start c = simp length-set (omega (arith, fits c))

pub overflow_add-here : goal.overflow_add-here
overflow_add-here c = omega (arith, fits c)

pub returns : goal.returns
unfolding starts_and_ends
returns c = done c.loop-start.invariant.2 (ap starts_and_ends (left-none _ _ c.in-None.ensures.steps)) refl
