-- `marks::mark_bytes` meets its contract: ranges that meet are one. Assumes nothing.
use Prim.Native.Nat.{◌*◌, ◌/◌, ◌+◌, ◌-◌}
use borrow.Rule.Slice.PartMut.{put_mid}
use Rattle.marks.proofs.Stored.{part-filled}
use native.Mathlib.Omega.{arith}
use borrow.Author.Rules.{rules}
use Rattle.format.specs.Bytes.{within}
use Rattle.marks.specs.Marks.{Marked}
use Rattle.marks.proofs.Marking.{marked-range, marked_more, marked-fill}
use Rattle.marks.proofs.mark_bytes.Goals as goal
use Rattle.marks.proofs.mark_bytes.Goals.{After-fill}

pub mark_byte-requires : goal.mark_byte-requires
mark_byte-requires c = search rules

pub returns-then-a-e : goal.returns-then-a-e
returns-then-a-e c =
    let a = c.args in
    marked-range a.lo a.hi (omega arith) (omega arith) c.mark_byte.ensures

pub mark_byte-requires-2 : goal.mark_byte-requires-2
mark_byte-requires-2 c = search rules

-- all but the last byte
front : (c : After-fill) →
    let a = c.args in
    Marked (within 0 a.lo (8 * (a.hi / 8))) a.s.now (put_mid (a.lo / 8 + 1) (a.hi / 8 - (a.lo / 8 + 1)) c.mark_byte-2.new.s c.fill.new.self)
front c =
    let a = c.args in
    let first = c.mark_byte-2.ensures in
    let wrote = part-filled c.mark_byte-2.new.s (a.lo / 8 + 1) (a.hi / 8) 255 (omega arith) (omega (arith, first.size)) (c.fill.ensures.after (λ y same. same)) in
    marked_more a.lo (8 * (a.lo / 8 + 1)) (8 * (a.hi / 8)) (omega arith) (omega arith)
    (marked-range a.lo (8 * (a.lo / 8 + 1)) (omega arith) (omega arith) first)
    (marked-fill (a.lo / 8 + 1) (a.hi / 8) (λ j. omega (arith, c.slice_known-2-1.given j)) (omega arith) (omega (arith, first.size)) wrote)

pub mark_byte-requires-then-hi-ne0 : goal.mark_byte-requires-then-hi-ne0
mark_byte-requires-then-hi-ne0 c = (omega (arith, (front (goal.at.mark_byte-requires-then-hi-ne0 c).After-fill).size), omega arith, omega arith)

pub returns-then-hi-ne0 : goal.returns-then-hi-ne0
returns-then-hi-ne0 c =
    let a = c.args in
    marked_more a.lo (8 * (a.hi / 8)) a.hi (omega arith) (omega arith)
    (front (goal.at.returns-then-hi-ne0 c).After-fill)
    (marked-range (8 * (a.hi / 8)) a.hi (omega arith) (omega arith) c.mark_byte-then-hi-ne0.ensures)

pub returns-else-hi-ne0 : goal.returns-else-hi-ne0
returns-else-hi-ne0 c =
    let a = c.args in
    marked-range a.lo a.hi (omega arith) (omega arith) (front (goal.at.returns-else-hi-ne0 c).After-fill)
