-- `next` of `Blocks` meets its contract: each arm cites the law of its form of block. Assumes nothing.
use Rattle.std.proofs.Common.{◌≡◌, ℕ, ◌+◌, ◌<◌, ◌≤◌, length, get_or, refl, arith}
use Rattle.slots.specs.Source.{slot_of}
use Rattle.predicate.specs.declared.Blocks.{Blocks}
use Rattle.predicate.specs.Selection.{reach}
use Rattle.predicate.specs.Blocks.{GoesOn, Lists, picks_on, edges_on}
use Rattle.predicate.proofs.Picks.{picks-over}
use Rattle.predicate.proofs.Steps.{all-gives, run_fits, run-within, run-gives, run-lists, run-over, list-over, list-leaves, list-lists}
use Rattle.predicate.proofs.BlocksIterator.next.Goals as goal
use Rattle.predicate.proofs.BlocksIterator.next.Goals.{In-Runs, In-Rows, Else-stored-self}

-- the entries that are left are the starts and ends of the runs that are left
lists : (c : In-Runs) →
    let s = c.args.self.now in
    let r = c.in-Runs.stored in
    Lists r.ends.now s.index (edges_on (slot_of r.bytes.now r.bits) r.bits.len s.place)
lists c = rw c.in-Runs.is at c.requires.agrees

-- and of a list of rows the rows that are left
listed : (c : In-Rows) →
    let s = c.args.self.now in
    let r = c.in-Rows.stored in
    Lists r.rows.now s.index (picks_on (slot_of r.bytes.now r.bits) r.bits.len s.place)
listed c = rw c.in-Rows.is at c.requires.agrees

inside : (c : In-Rows) → c.args.self.now.place ≤ c.in-Rows.stored.bits.len
inside c = rw c.in-Rows.is at c.requires.inside

fits : (c : Else-stored-self) → c.args.self.now.index + 1 < length c.in-Runs.stored.ends.now
fits c = run_fits _ _ _ (lists (goal.at.Else-stored-self c).In-Runs) (omega arith)

pub returns-in-Nothing-clause-steps : goal.returns-in-Nothing-clause-steps
returns-in-Nothing-clause-steps c = record { block = record { same = refl; gives = rw c.in-Nothing.is (picks-over _ _ _ (omega arith)) }; stays = λ h. h }

pub returns-then-n-self-clause-steps : goal.returns-then-n-self-clause-steps
returns-then-n-self-clause-steps c = record { block = record { same = refl; gives = rw c.in-Everything.is (picks-over _ _ _ (omega arith)) }; stays = λ h. h }

pub returns-else-n-self-clause-steps : goal.returns-else-n-self-clause-steps
returns-else-n-self-clause-steps c =
    record {
      block = record { same = refl; gives = ((omega arith, rw c.in-Everything.is (omega arith)), rw c.in-Everything.is (all-gives _ _ (omega arith))) };
      stays = λ h. record { inside = rw c.in-Everything.is (omega arith); agrees = rw c.in-Everything.is tt };
    }

pub returns-then-stored-self-clause-steps : goal.returns-then-stored-self-clause-steps
returns-then-stored-self-clause-steps c = record { block = record { same = refl; gives = rw c.in-Runs.is (run-over _ _ _ (lists (goal.at.returns-then-stored-self-clause-steps c).In-Runs) (omega arith)) }; stays = λ h. h }

pub returns-else-stored-self-clause-steps : goal.returns-else-stored-self-clause-steps
returns-else-stored-self-clause-steps c =
    let g = lists (goal.at.returns-else-stored-self-clause-steps c).In-Runs in
    rw c.run_at-a.ensures.run
    record {
      block = record { same = refl; gives = (rw c.in-Runs.is (run-within _ _ _ g (omega arith)), rw c.in-Runs.is (run-gives _ _ _ g (omega arith)).rest) };
      stays = λ h. record { inside = rw c.in-Runs.is (run-within _ _ _ g (omega arith)).1; agrees = rw c.in-Runs.is (run-lists _ _ _ g (omega arith)) };
    }

pub returns-else-stored-self-clause-goes : goal.returns-else-stored-self-clause-goes
returns-else-stored-self-clause-goes c =
    let g = lists (goal.at.returns-else-stored-self-clause-goes c).In-Runs in
    let s = c.args.self.now in
    let e : ℕ = get_or c.in-Runs.stored.ends.now (s.index + 1) 0 in
    let t : Blocks = record { sel = s.sel; place = e; index = s.index + 2 } in
    let moves : s.place < e = (run-gives _ _ _ g (omega arith)).moves in
    let high : e ≤ reach s.sel = rw c.in-Runs.is (run-within _ _ _ g (omega arith)).1 in
    let step : GoesOn t = record { inside = rw c.in-Runs.is (run-within _ _ _ g (omega arith)).1; agrees = rw c.in-Runs.is (run-lists _ _ _ g (omega arith)) } in
    rw c.run_at-a.ensures.run record { on = λ _. (step, tt, omega arith); keeps = step; rests = λ _. tt }

pub returns-then-stored-self-2-clause-steps : goal.returns-then-stored-self-2-clause-steps
returns-then-stored-self-2-clause-steps c = record { block = record { same = refl; gives = rw c.in-Rows.is (list-over _ _ _ (listed (goal.at.returns-then-stored-self-2-clause-steps c).In-Rows) (omega arith)) }; stays = λ h. h }

pub run_at-a-requires : goal.run_at-a-requires
run_at-a-requires c = fits (goal.at.run_at-a-requires c).Else-stored-self

pub overflow_add-self : goal.overflow_add-self
overflow_add-self c = omega (arith, fits (goal.at.overflow_add-self c).Else-stored-self)

pub rows_from-rows-requires : goal.rows_from-rows-requires
rows_from-rows-requires c = omega arith

pub returns-else-stored-self-2-clause-steps : goal.returns-else-stored-self-2-clause-steps
returns-else-stored-self-2-clause-steps c =
    let r = (goal.at.returns-else-stored-self-2-clause-steps c).In-Rows in
    let g = list-leaves _ _ _ (listed r) (inside r) (omega arith) in
    record {
      block = record { same = refl; gives = (tt, rw (c.in-Rows.is, c.rows_from-rows.ensures) g.rest) };
      stays = λ h. record { inside = rw c.in-Rows.is (omega arith); agrees = rw c.in-Rows.is (λ l. omega arith) };
    }

pub returns-else-stored-self-2-clause-goes : goal.returns-else-stored-self-2-clause-goes
returns-else-stored-self-2-clause-goes c =
    let r = (goal.at.returns-else-stored-self-2-clause-goes c).In-Rows in
    let s = c.args.self.now in
    let stored = c.in-Rows.stored in
    let t : Blocks = record { sel = s.sel; place = stored.bits.len; index = length stored.rows.now } in
    let moves : s.place < stored.bits.len = (list-leaves _ _ _ (listed r) (inside r) (omega arith)).moves in
    let reached : reach s.sel ≡ stored.bits.len = rw c.in-Rows.is refl in
    let step : GoesOn t = record { inside = rw c.in-Rows.is (omega arith); agrees = rw c.in-Rows.is (list-lists _ _ _ (listed r) (inside r) (omega arith)) } in
    record { on = λ _. (step, tt, omega arith); keeps = step; rests = λ _. tt }
