-- `fill::fill_all` meets its contract. The loop's invariant: the children of the first i nodes have their bitmaps. Assumes nothing.
use Prim.Native.Nat.{◌+◌, ◌≤◌, ◌<◌}
use mathlib.Core.Path.{◌≡◌, refl, sym, ap, ◌∙◌}
use native.Mathlib.Omega.{arith}
use lib.ListN.{length, length-set, length-drop}
use lib.Seq.{length-take-le}
use Rattle.format.specs.Bytes.{bytes_for}
use Rattle.format.specs.Node.{node_count, rows}
use Rattle.format.proofs.Put.{same_size}
use Rattle.marks.proofs.Stored.{part-wrote, length-rows}
use Rattle.nesting.specs.Rows.{keeps, picks_in}
use Rattle.fill.proofs.Filling.{takes, inside, filled_none, filled-earlier, next_fits, filled_more, filled-same, filled-all}
use Rattle.fill.proofs.fill_all.Goals as goal
use Rattle.fill.proofs.fill_all.Goals.{After-div_ceil-size}

pub loop-i-init : goal.loop-i-init
loop-i-init c = (refl, filled_none)

pub loop-i-preserved-then-not-takes_bitmap : goal.loop-i-preserved-then-not-takes_bitmap
loop-i-preserved-then-not-takes_bitmap c =
    let l = c.loop-i in
    (l.invariant.0, filled-same c.args.counted.ready.sound (omega (arith, c.node_count-i-end.ensures, c.loop-i-test.true)) c.takes_bitmap.ensures c.if-not-takes_bitmap.true l.invariant.1)

pub rows-requires : goal.rows-requires
rows-requires c = inside c.args.counted.ready.sound (omega (arith, c.node_count-i-end.ensures, c.loop-i-test.true)) c.takes_bitmap.ensures c.if-not-takes_bitmap.false

-- the bitmap's size, and that it fits
size_is : (c : After-div_ceil-size) → c.div_ceil-size.result ≡ bytes_for (rows c.args.counted.journal.now.bytes.now (c.loop-i.i + 1))
unfolding bytes_for
size_is c = c.div_ceil-size.ensures ∙ rw c.rows.ensures (omega arith)

fits : (c : After-div_ceil-size) → c.loop-i.at + c.div_ceil-size.result ≤ length c.loop-i.scratch
fits c =
    let h : c.loop-i.i < node_count c.args.counted.journal.now.bytes.now = omega (arith, c.node_count-i-end.ensures, c.loop-i-test.true) in
    rw (size_is c) (next_fits c.args.counted.ready.sound h c.takes_bitmap.ensures c.if-not-takes_bitmap.false c.requires.room c.loop-i.invariant.1)

pub split_at_mut-front-requires : goal.split_at_mut-front-requires
split_at_mut-front-requires c = omega (arith, fits (goal.at.split_at_mut-front-requires c).After-div_ceil-size)

pub slice_bounds-fill_next-end : goal.slice_bounds-fill_next-end
slice_bounds-fill_next-end c = omega (arith, fits (goal.at.slice_bounds-fill_next-end c).After-div_ceil-size, c.split_at_mut-front.ensures.back_len)

pub slice_bounds-fill_next-end-in-loop-i : goal.slice_bounds-fill_next-end-in-loop-i
slice_bounds-fill_next-end-in-loop-i c = sym (length-take-le _ _ (omega (arith, fits (goal.at.slice_bounds-fill_next-end-in-loop-i c).After-div_ceil-size, c.split_at_mut-front.ensures.back_len)))

pub fill_next-requires : goal.fill_next-requires
fill_next-requires c =
    let l = c.loop-i in
    let r = c.args.counted.ready in
    let d = (goal.at.fill_next-requires c).After-div_ceil-size in
    let h : l.i < node_count c.args.counted.journal.now.bytes.now = omega (arith, c.node_count-i-end.ensures, c.loop-i-test.true) in
    let front : l.at ≤ length l.scratch = omega (arith, fits d) in
    record {
      known = omega (arith, h, c.requires.known);
      takes = (takes r.sound h c.takes_bitmap.ensures c.if-not-takes_bitmap.false, h);
      earlier = rw c.split_at_mut-front.ensures.front (filled-earlier r.sound (omega (arith, h)) front l.invariant.1);
      size = length-take-le _ _ (omega (arith, fits d, c.split_at_mut-front.ensures.back_len)) ∙ size_is d;
    }

pub bounds-places-i : goal.bounds-places-i
bounds-places-i c =
    let s = c.args.counted.ready.sound in
    omega (arith, inside s (omega (arith, c.node_count-i-end.ensures, c.loop-i-test.true)) c.takes_bitmap.ensures c.if-not-takes_bitmap.false, s.shape.few)

pub loop-i-preserved : goal.loop-i-preserved
loop-i-preserved c =
    let l = c.loop-i in
    let s = c.args.counted.ready.sound in
    let b = c.args.counted.journal.now.bytes.now in
    let d = (goal.at.loop-i-preserved c).After-div_ceil-size in
    let h : l.i < node_count b = omega (arith, c.node_count-i-end.ensures, c.loop-i-test.true) in
    let wrote = part-wrote l.at c.div_ceil-size.result c.fill_next.ensures (length-rows (keeps b (picks_in c.args.counted.source) (l.i + 1)) (rows b (l.i + 1)) ∙ sym (size_is d)) (fits d) refl in (
      simp length-set l.invariant.0,
      filled_more s h c.takes_bitmap.ensures c.if-not-takes_bitmap.false c.requires.room l.invariant.1 l.invariant.0
          (rw (c.split_at_mut-front.ensures.front, c.split_at_mut-front.ensures.back) wrote),
    )

pub returns : goal.returns
returns c = filled-all (omega (arith, c.loop-i.auto.i-end, c.node_count-i-end.ensures, c.loop-i-test.false)) c.requires.room c.loop-i.invariant.1
