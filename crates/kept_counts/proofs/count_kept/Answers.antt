-- `count_kept` meets its contract. Assumes nothing.
use Rattle.std.proofs.Common.{length, refl, sym, ap, ◌∙◌}
use Rattle.format.specs.Kept.{kept_spans}
use Rattle.nesting.specs.Rows.{picks_in}
use Rattle.nesting.proofs.Counting.{ready_at, under-shared, under-empty, under-filled}
use Rattle.nesting.proofs.ListAt.{child-kept}
use Rattle.stretches.proofs.Here.{run-next, list-after}
use Rattle.kept_counts.proofs.count_kept.Goals as goal

pub picked-requires : goal.picked-requires
picked-requires c = rw (c.in-Runs.ensures.0, c.in-Runs.ensures.1) (record { same = c.at_root.ensures.same c.if-at_root.true })

pub count_spans-requires : goal.count_spans-requires
count_spans-requires c = rw (c.in-List.ensures.0, c.in-List.ensures.1, c.if-at_root-2.ensures.long refl) c.args.counted.ready.rooted

pub returns-in-Rows : goal.returns-in-Rows
returns-in-Rows c =
    let ready = ready_at c.args.counted.ready c.requires.known in
    rw c.parent-p.ensures at c.kept.ensures ∙ under-shared ready c.requires.inside.1 c.requires.inside.0 (rw c.parent-p.ensures at c.in-Rows.ensures)

pub returns-in-Runs : goal.returns-in-Runs
returns-in-Runs c =
    let next = run-next c.args.counted c.in-Runs.runs c.in-Runs.ensures.0 c.requires.inside.1 c.requires.inside.0 c.parent-p.ensures c.in-Runs.ensures.1 in
    rw (next, ← c.in-Runs.ensures.0) c.picked.ensures

pub returns-in-List : goal.returns-in-List
returns-in-List c =
    let next = list-after c.args.counted c.in-List.list c.in-List.ensures.0 c.requires.inside.1 c.requires.inside.0 c.parent-p.ensures c.in-List.ensures.1 in
    let root = picks_in c.args.counted.source in
    let above = rw (← c.in-List.ensures.1) at (c.if-at_root-2.ensures.same refl root) in
    rw next
    (rw c.in-List.ensures.0 at c.count_spans.ensures
    ∙ ap length (sym (child-kept (rw c.in-List.ensures.0 at c.in-List.list.at) root ∙ ap (kept_spans c.in-List.list.width c.args.counted.journal.now.bytes.now c.in-List.list.node) above)))

pub returns-then-kept-eq0 : goal.returns-then-kept-eq0
returns-then-kept-eq0 c =
    let ready = ready_at c.args.counted.ready c.requires.known in
    under-empty ready c.requires.inside.1 c.requires.inside.0 (rw c.parent-p.ensures at c.in-All.ensures) (rw c.parent-p.ensures at (sym c.kept-in-All.ensures ∙ c.if-kept-eq0.true))

pub returns-else-kept-eq0 : goal.returns-else-kept-eq0
returns-else-kept-eq0 c =
    let ready = ready_at c.args.counted.ready c.requires.known in
    c.rows.ensures ∙ under-filled ready c.requires.inside.1 c.requires.inside.0 (rw c.parent-p.ensures at c.in-All.ensures) (λ e. c.if-kept-eq0.false (rw c.parent-p.ensures at c.kept-in-All.ensures ∙ e))
