-- `scan::next_row` meets its contract. The slots from `from` up to word w fail, and x is what is left of that word. Assumes nothing.
use Rattle.std.proofs.Common.{◌+◌, ◌*◌, sym, ◌∙◌, arith}
use lib.Count.{count_trailing_zeros}
use Rattle.format.proofs.SlotLaws.{all_none}
use Rattle.slots.specs.Slot.{slot_in}
use Rattle.scan.proofs.Scan.{Scanned, Hit, starts, hit, passed, fresh, picked-none, picked-then}
use Rattle.scan.proofs.next_row.Goals as goal
use Rattle.scan.proofs.next_row.Goals.{After-loop-x, In-loop-x}

pub returns-then-end-from : goal.returns-then-end-from
returns-then-end-from c = all_none (omega arith)

pub loop-x-init : goal.loop-x-init
loop-x-init c = (omega arith, starts _ _, c.word_after-x.ensures)

-- nothing is left of word w
over : (c : In-loop-x) →
    let a = c.args in
    Scanned (slot_in a.source) a.from (c.loop-x.w + 1) a.from a.from
over c = passed c.loop-x.invariant.1 (sym c.loop-x.invariant.2 ∙ c.loop-x-test.true)

pub loop-x-preserved : goal.loop-x-preserved
loop-x-preserved c =
    let a = c.args in
    (omega arith, over (goal.at.loop-x-preserved c).In-loop-x, c.word-x.ensures ∙ fresh (slot_in a.source) a.from 64 _ (omega arith))

-- something is left of it
found : (c : After-loop-x) →
    let a = c.args in
    Hit (slot_in a.source) c.loop-x.w a.from c.loop-x.x (64 * c.loop-x.w + count_trailing_zeros 64 c.loop-x.x)
found c = hit c.loop-x.invariant.1 c.loop-x.x c.loop-x.invariant.2 (omega arith)

pub returns-then-end-w : goal.returns-then-end-w
returns-then-end-w c = picked-none _ (over (goal.at.returns-then-end-w c).In-loop-x) c.if-end-w.true

pub overflow_cast-k : goal.overflow_cast-k
overflow_cast-k c = omega (arith, (found c).inside)

pub overflow_add-k : goal.overflow_add-k
overflow_add-k c = omega (arith, (found c).inside)

pub returns : goal.returns
returns c = rw c.then_some.ensures (picked-then _ (found (goal.at.returns c).After-loop-x))
