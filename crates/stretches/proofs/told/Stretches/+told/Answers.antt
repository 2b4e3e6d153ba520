-- `Stretches::told`, `told_list` and `told_run` meet their contracts. Assumes nothing.
use mathlib.Core.Path.{refl, ◌∙◌}
use native.Mathlib.Numerals.{add-one}
use native.Mathlib.Omega.{arith}
use Rattle.nesting.proofs.Between.{empty}
use Rattle.stretches.proofs.Telling.{root_told, parent-low, shared-told, carried-told, next-told, missed_more}
use Rattle.stretches.proofs.Here.{run-inside, run-kid, run-next, run-lo, run-hi, hit, miss, list-kid, list-after, gap, in-kept, in-dropped}
use Rattle.stretches.proofs.told.Stretches.+told.Goals.{told_list-then-s, told_list-else-s}
use Rattle.stretches.proofs.told.Stretches.+told.Goals as goal

pub told-note-requires-clause-alike : goal.told-note-requires-clause-alike
told-note-requires-clause-alike t c = rw c.if-node-eq0.true (root_told _ c.args.self.now.counted.source (rw (c.rows-len.ensures, c.if-node-eq0.true) at c.picked-stretch.ensures))

pub told-told_run-requires : goal.told-told_run-requires
told-told_run-requires t c =
    let counted = c.args.self.now.counted in
    let low = parent-low counted.ready.sound counted.ready.rooted c.requires.inside (omega arith) c.parent-p.ensures in
    let next = run-next counted c.in-Runs.runs c.in-Runs.ensures.0 c.requires.inside (omega arith) c.parent-p.ensures c.in-Runs.ensures.1 in
    (omega (arith, low, c.in-Runs.ensures.1, c.decreases), (c.in-Runs.ensures.0, (omega (arith, low, c.in-Runs.ensures.1), rw (← next) c.requires.row)))

pub told-told_list-requires : goal.told-told_list-requires
told-told_list-requires t c =
    let counted = c.args.self.now.counted in
    let low = parent-low counted.ready.sound counted.ready.rooted c.requires.inside (omega arith) c.parent-p.ensures in
    let next = list-after counted c.in-List.list c.in-List.ensures.0 c.requires.inside (omega arith) c.parent-p.ensures c.in-List.ensures.1 in
    (omega (arith, low, c.in-List.ensures.1, c.decreases), (c.in-List.ensures.0, (omega (arith, low, c.in-List.ensures.1), rw (← next) c.requires.row)))

pub told-returns-in-Rows-clause-alike : goal.told-returns-in-Rows-clause-alike
told-returns-in-Rows-clause-alike t c =
    shared-told c.args.self.now.counted.ready.sound c.args.self.now.counted.ready.rooted c.requires.inside (omega arith) c.parent-p.ensures c.in-Rows.ensures c.told.ensures.alike

pub told-returns-in-Runs-clause-alike : goal.told-returns-in-Runs-clause-alike
told-returns-in-Runs-clause-alike t c =
    next-told _ _ (run-next c.args.self.now.counted c.in-Runs.runs c.in-Runs.ensures.0 c.requires.inside (omega arith) c.parent-p.ensures c.in-Runs.ensures.1) c.told_run.ensures.alike

pub told-returns-in-List-clause-alike : goal.told-returns-in-List-clause-alike
told-returns-in-List-clause-alike t c =
    next-told _ _ (list-after c.args.self.now.counted c.in-List.list c.in-List.ensures.0 c.requires.inside (omega arith) c.parent-p.ensures c.in-List.ensures.1) c.told_list.ensures.alike

pub told-returns-in-All-clause-alike : goal.told-returns-in-All-clause-alike
told-returns-in-All-clause-alike t c =
    rw c.rows-len.ensures (carried-told c.args.self.now.counted.ready.sound c.args.self.now.counted.ready.rooted c.requires.inside (omega arith) c.parent-p.ensures c.in-All.ensures c.requires.row c.kept.ensures)

pub told_list-bounds-self-node : goal.told_list-bounds-self-node
told_list-bounds-self-node t c = omega (arith, list-kid c.args.self.now.counted c.args.list c.requires.here, c.args.self.now.counted.ready.sound.shape.few)

pub told_list-note-requires-clause-inside : goal.told_list-note-requires-clause-inside
told_list-note-requires-clause-inside t c = list-kid c.args.self.now.counted c.args.list c.requires.here

pub told_list-note-requires-clause-alike : goal.told_list-note-requires-clause-alike
told_list-note-requires-clause-alike t c = gap c.args.self.now.counted c.args.list c.requires.here c.in-Gap.ensures

pub told_list-note-requires-in-Row-clause-inside : goal.told_list-note-requires-in-Row-clause-inside
told_list-note-requires-in-Row-clause-inside t c = rw c.told-s.ensures.same (list-kid c.args.self.now.counted c.args.list c.requires.here)

pub told_list-note-requires-in-Row-clause-alike : goal.told_list-note-requires-in-Row-clause-alike
told_list-note-requires-in-Row-clause-alike t c =
    rw c.told-s.ensures.same
    (elim c.if-s.branch [
      | told_list-then-s w ↦ in-kept c.args.self.now.counted c.args.list c.requires.here c.in-Row.ensures c.told-s.ensures.alike c.start-end.ensures w.if-s.true (rw w.row-is w.valid_to-row.ensures)
      | told_list-else-s w ↦ in-dropped c.args.self.now.counted c.args.list c.requires.here c.in-Row.ensures c.told-s.ensures.alike c.start-end.ensures w.if-s.false w.row-is
    ])

pub told_list-returns-in-Gap-clause-alike : goal.told_list-returns-in-Gap-clause-alike
told_list-returns-in-Gap-clause-alike t c = rw add-one at c.note.ensures.alike

pub told_list-returns-after-s-clause-alike : goal.told_list-returns-after-s-clause-alike
told_list-returns-after-s-clause-alike t c = rw (c.told-s.ensures.same, add-one) at c.note-in-Row.ensures.alike

pub told_run-loop-x-init : goal.told_run-loop-x-init
told_run-loop-x-init t c =
    let lo = run-lo c.args.self.now.counted c.args.runs c.requires.here _ c.start.ensures c.skip.ensures c.saturating_sub-x.ensures in
    (refl, omega (arith, lo), empty _ _ _ (omega (arith, lo)))

pub told_run-loop-x-preserved : goal.told_run-loop-x-preserved
told_run-loop-x-preserved t c =
    let alike = rw c.loop-x.invariant.0 at c.told-s.ensures.alike in
    (c.told-s.ensures.same ∙ c.loop-x.invariant.0, omega (arith, c.loop-x.invariant.1, alike.some), missed_more _ _ _ _ c.loop-x.invariant.1 c.loop-x.invariant.2 (rw c.if-s.false at alike))

pub told_run-told-s-requires : goal.told_run-told-s-requires
told_run-told-s-requires t c =
    let inside = run-inside c.args.self.now.counted c.args.runs c.requires.here in
    (omega (arith, c.decreases), (rw c.loop-x.invariant.0 (omega (arith, c.requires.known)), (rw c.loop-x.invariant.0 inside, rw c.loop-x.invariant.0 (omega (arith, run-hi c.args.self.now.counted c.args.runs c.requires.here _ c.rows.ensures c.end_edge-hi.ensures)))))

pub told_run-note-requires-clause-inside : goal.told_run-note-requires-clause-inside
told_run-note-requires-clause-inside t c = rw (c.told-s.ensures.same, c.loop-x.invariant.0) (run-kid c.args.self.now.counted c.args.runs c.requires.here)

pub told_run-note-requires-clause-alike : goal.told_run-note-requires-clause-alike
told_run-note-requires-clause-alike t c =
    rw (c.told-s.ensures.same, c.loop-x.invariant.0)
    (hit c.args.self.now.counted c.args.runs c.requires.here c.requires.row (run-hi c.args.self.now.counted c.args.runs c.requires.here _ c.rows.ensures c.end_edge-hi.ensures) c.loop-x.invariant.1 c.loop-x-test.true (rw (c.loop-x.invariant.0, c.if-s.true) at c.told-s.ensures.alike) c.runs_past-end.ensures)

pub told_run-returns-then-s-clause-same : goal.told_run-returns-then-s-clause-same
told_run-returns-then-s-clause-same t c = c.note.ensures.same ∙ c.told-s.ensures.same ∙ c.loop-x.invariant.0

pub told_run-returns-then-s-clause-alike : goal.told_run-returns-then-s-clause-alike
told_run-returns-then-s-clause-alike t c = rw (c.told-s.ensures.same, c.loop-x.invariant.0, add-one) at c.note.ensures.alike

pub told_run-note-requires-2-clause-inside : goal.told_run-note-requires-2-clause-inside
told_run-note-requires-2-clause-inside t c = rw c.loop-x.invariant.0 (run-kid c.args.self.now.counted c.args.runs c.requires.here)

pub told_run-note-requires-2-clause-alike : goal.told_run-note-requires-2-clause-alike
told_run-note-requires-2-clause-alike t c =
    rw c.loop-x.invariant.0
    (miss c.args.self.now.counted c.args.runs c.requires.here c.requires.row (run-hi c.args.self.now.counted c.args.runs c.requires.here _ c.rows.ensures c.end_edge-hi.ensures) c.loop-x.invariant.1 (omega arith) c.loop-x.invariant.2 c.runs_past-end-2.ensures)

pub told_run-returns-clause-same : goal.told_run-returns-clause-same
told_run-returns-clause-same t c = c.note-2.ensures.same ∙ c.loop-x.invariant.0

pub told_run-returns-clause-alike : goal.told_run-returns-clause-alike
told_run-returns-clause-alike t c = rw (c.loop-x.invariant.0, add-one) at c.note-2.ensures.alike
