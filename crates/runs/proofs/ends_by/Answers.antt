-- `runs::ends_by` meets its contract: each run that keeps a row writes its end, the running count. Assumes nothing.
use Prim.Native.Nat.{◌+◌, ◌-◌, ◌≤◌}
use mathlib.Core.Path.{◌≡◌}
use native.Mathlib.Omega.{arith}
use lib.ListN.{length}
use Rattle.format.specs.Slots.{picks_from}
use Rattle.predicate.specs.Blocks.{kept_by}
use Rattle.predicate.specs.Selection.{selected}
use Rattle.words.proofs.Widths.{wider}
use Rattle.runs.specs.Ends.{sizes}
use Rattle.runs.proofs.GroupLaws.{start_first, start-next, grouped-none, grouped-miss, grouped-hit, grouped-room}
use Rattle.runs.proofs.EndLaws.{run-order, run-size, run-few}
use Rattle.runs.proofs.ends_by.Given.{Over}
use Rattle.runs.proofs.ends_by.Goals as goal
use Rattle.runs.proofs.ends_by.Goals.{After-end-hi, After-count-size, then-size-gt0, else-size-gt0}

pub loop-j-init : goal.loop-j-init
loop-j-init g c =
    let r = c.args.runs in
    record { few = omega arith; starts = omega (arith, start_first r.width r.bytes.now r.first); grouped = grouped-none _ _ _ _ }

module _ (g : Over) where
  order : (c : After-end-hi g) → (c.loop-j.lo ≤ c.end-hi.result) × (c.end-hi.result ≤ c.reach-len.result)
  order c = run-order c.args.runs c.args.sel c.loop-j.j _ _ _ c.loop-j-test.true c.reach-len.ensures c.loop-j.invariant.starts c.end-hi.ensures

  module _ (c : After-count-size g) where
    -- the count is that of the run's kept rows
    counted : c.count-size.result ≡ length (picks_from (kept_by c.args.sel) (c.end-hi.result - c.loop-j.lo) c.loop-j.lo)
    counted =
        let o = order (goal.at.After-count-size g c).After-end-hi in
        c.requires.counts _ _ _ o.0 (omega (arith, o.1, c.reach-len.ensures)) c.count-size.ensures

    sized : c.count-size.result ≡ sizes c.args.runs (selected c.args.sel) c.loop-j.j
    sized = run-size c.args.runs c.args.sel c.loop-j.j _ _ _ c.loop-j-test.true c.reach-len.ensures c.loop-j.invariant.starts c.end-hi.ensures _ counted

    -- the running count stays below the rows passed
    below : c.loop-j.kept + c.count-size.result ≤ c.end-hi.result
    below =
        let few = run-few c.args.runs c.args.sel c.loop-j.j _ _ _ c.loop-j-test.true c.reach-len.ensures c.loop-j.invariant.starts c.end-hi.ensures _ counted in
        let o = order (goal.at.After-count-size g c).After-end-hi in
        omega (arith, few, o.0, c.loop-j.invariant.few)

pub count-size-requires : goal.count-size-requires
count-size-requires g c =
    let o = order g (goal.at.count-size-requires g c).After-end-hi in
    c.requires.callable _ _ o.0 (omega (arith, o.1, c.reach-len.ensures))

pub overflow_add-kept : goal.overflow_add-kept
overflow_add-kept g c = omega (arith, below g (goal.at.overflow_add-kept g c).After-count-size)

pub put_number-here-requires : goal.put_number-here-requires
put_number-here-requires g c = record {
  is_width = wider _ c.args.runs.lie.width;
  inside = grouped-room c.loop-j.invariant.grouped (sized g (goal.at.put_number-here-requires g c).After-count-size) c.if-size-gt0.true _ c.loop-j-test.true c.requires.room;
}

pub loop-j-preserved : goal.loop-j-preserved
loop-j-preserved g c =
    let k = (goal.at.loop-j-preserved g c).After-count-size in
    let few = below g k in
    let o = order g (goal.at.loop-j-preserved g c).After-end-hi in
    record {
      few = elim c.if-size-gt0.branch [ then-size-gt0 w ↦ omega (arith, w.kept-is) | else-size-gt0 w ↦ omega (arith, w.kept-is, o.0, c.loop-j.invariant.few) ];
      starts = rw start-next c.end-hi.ensures;
      grouped = elim c.if-size-gt0.branch [
        | then-size-gt0 w ↦ rw (w.out-is, w.here-is, w.kept-is) (grouped-hit c.loop-j.invariant.grouped (sized g k) w.if-size-gt0.true w.put_number-here.ensures)
        | else-size-gt0 w ↦ rw (w.out-is, w.here-is, w.kept-is) (grouped-miss c.loop-j.invariant.grouped _ (sized g k) (λ h. absurd (omega (arith, w.if-size-gt0.false))))
      ];
    }
