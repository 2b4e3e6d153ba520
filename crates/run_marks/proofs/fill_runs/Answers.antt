-- `run_marks::fill_runs` meets its contract. The loop's invariant: the bytes before byte `place` are written, and the next run starts at lo. Assumes nothing.
use Prim.Native.Nat.{◌+◌, ◌*◌, ◌<◌, min}
use mathlib.Core.Path.{◌≡◌, ap, ◌∙◌}
use native.Mathlib.Omega.{arith}
use Rattle.format.proofs.Put.{kept}
use Rattle.nesting.specs.Rows.{hands_on, picks_in, edge}
use Rattle.nesting.proofs.RunEdges.{runs-small, edge-first}
use Rattle.run_marks.proofs.Packing.{byte-inside, bytes-none, byte_more, bytes-done}
use Rattle.run_marks.proofs.fill_runs.Goals as goal

pub loop-place-init : goal.loop-place-init
loop-place-init c =
    let e : min c.count-count.result 0 ≡ 0 = omega arith in
    (rw e (edge-first _ _ _), bytes-none _ _ c.requires)

pub overflow_mul-from : goal.overflow_mul-from
overflow_mul-from c =
    omega (arith, byte-inside _ _ c.requires c.loop-place.place c.loop-place-test.true, runs-small c.args.runs.at)

pub overflow_add-from : goal.overflow_add-from
overflow_add-from c =
    omega (arith, byte-inside _ _ c.requires c.loop-place.place c.loop-place-test.true, runs-small c.args.runs.at)

pub runs_byte-g-requires : goal.runs_byte-g-requires
runs_byte-g-requires c =
    let a = c.args in
    let k = byte-inside _ _ c.requires c.loop-place.place c.loop-place-test.true in
    let here : min c.count-count.result (8 * c.loop-place.place) ≡ 8 * c.loop-place.place = omega (arith, k, c.count-count.ensures) in
    record {
      from_le_to = (omega (arith, k, c.count-count.ensures, c.min.ensures), omega (arith, c.min.ensures), omega (arith, c.count-count.ensures, c.min.ensures));
      start_value = rw here at c.loop-place.invariant.0;
    }

pub loop-place-preserved : goal.loop-place-preserved
loop-place-preserved c =
    let a = c.args in
    let p = hands_on a.runs.journal.now.bytes.now a.runs.node (picks_in a.source) in
    let g = c.runs_byte-g in
    let next : c.min.result ≡ min c.count-count.result (8 * (c.loop-place.place + 1)) = omega (arith, c.min.ensures) in (
      g.ensures.next_value ∙ ap (edge a.runs.journal.now.bytes.now a.runs.node a.source.bits.len) next,
      byte_more p _ c.requires c.loop-place.invariant.1 (byte-inside _ _ c.requires c.loop-place.place c.loop-place-test.true) (omega (arith, c.count-count.ensures, c.min.ensures)) g.ensures.byte_value,
    )

pub shape_of-region : goal.shape_of-region
shape_of-region c = kept c.loop-place.invariant.1

pub returns : goal.returns
returns c =
    let a = c.args in
    bytes-done (hands_on a.runs.journal.now.bytes.now a.runs.node (picks_in a.source)) _ c.requires c.loop-place.invariant.1 (omega (arith, c.loop-place-test.false))
