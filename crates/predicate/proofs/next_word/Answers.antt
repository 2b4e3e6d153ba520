-- `predicate::next_word` meets its contract. The rows from `place` up to word w are not kept, and x is what is left of that word. Assumes nothing.
use Rattle.std.proofs.Common.{◌≡◌, ◌+◌, ◌*◌, ◌/◌, ◌%◌, ◌≤◌, sym, ◌∙◌, arith}
use Rattle.format.proofs.WordLaws.{from-clear}
use Rattle.slots.specs.Slot.{slot_in}
use Rattle.scan.specs.Asked.{Blank}
use Rattle.scan.proofs.Blanks.{blank_none}
use Rattle.scan.proofs.Scan.{Scanned, starts, passed, skips, fresh}
use Rattle.predicate.specs.Blocks.{Found}
use Rattle.predicate.proofs.Picks.{picks-over}
use Rattle.predicate.proofs.WordRuns.{worded-on}
use Rattle.predicate.proofs.next_word.Goals as goal
use Rattle.predicate.proofs.next_word.Goals.{After-loop-x, Joined-w-eq0}
use mathlib.Core.Logic.{inl, inr}

pub loop-x-init : goal.loop-x-init
loop-x-init c =
    let a = c.args in
    let at : 64 * (a.place / 64) + a.place % 64 ≡ a.place = omega arith in
    (omega arith, starts _ _, rw c.word_in.ensures (rw at at (from-clear (slot_in a.source) 64 (64 * (a.place / 64)) (a.place % 64) (omega arith))))

-- no slot is picked in the words passed, one or more
blank : (c : Joined-w-eq0) →
    let a = c.args in
    Blank (slot_in a.source) (c.loop-x.w + 1) a.source.bits.len c.if-w-eq0.w
blank c = elim (c.if-w-eq0.branch-raw) [ inl v ↦ rw v.w-is v.blank_end-w.ensures | inr v ↦ rw v.w-is (blank_none _ _ _) ]

-- nothing is left of word w, nor of the words passed after it
over : (c : Joined-w-eq0) →
    let a = c.args in
    Scanned (slot_in a.source) a.place c.if-w-eq0.w a.place a.place
over c =
    let k = c.before in
    skips (passed k.loop-x.invariant.1 (sym k.loop-x.invariant.2 ∙ k.loop-x-test.true)) (blank c)

reached : (c : Joined-w-eq0) → c.args.place ≤ 64 * c.if-w-eq0.w
reached c = omega (arith, c.loop-x.invariant.1.near, (blank c).low)

pub loop-x-preserved : goal.loop-x-preserved
loop-x-preserved c =
    let k = c.before.before.before in
    let a = c.args in
    (omega arith, over (goal.at.loop-x-preserved c).Joined-w-eq0, c.word_in-x.ensures ∙ fresh (slot_in a.source) a.place 64 _ (reached (goal.at.loop-x-preserved c).Joined-w-eq0))

pub returns-then-len-w-2 : goal.returns-then-len-w-2
returns-then-len-w-2 c =
    let k = c.before.before.before in
    let high = (blank (goal.at.returns-then-len-w-2 c).Joined-w-eq0).high in
    worded-on (reached (goal.at.returns-then-len-w-2 c).Joined-w-eq0) (omega arith) (over (goal.at.returns-then-len-w-2 c).Joined-w-eq0).gap _ c.last_block-then-len-w-2.ensures

-- the word has some row
found : (c : After-loop-x) →
    let a = c.args in
    Found (slot_in a.source) a.place c.loop-x.w c.loop-x.x
found c =
    let f = c.loop-x.invariant.1 in
    record { near = f.near; gap = f.gap; is = c.loop-x.invariant.2; some = omega arith }

pub returns-then-len-place : goal.returns-then-len-place
returns-then-len-place c = picks-over _ _ _ c.if-len-place.true

pub returns-then-len-w : goal.returns-then-len-w
returns-then-len-w c = c.last_block.ensures

pub blank_end-w-requires : goal.blank_end-w-requires
blank_end-w-requires c = omega arith

pub overflow_mul-w-in-loop-x : goal.overflow_mul-w-in-loop-x
overflow_mul-w-in-loop-x c = let high = (blank (goal.at.overflow_mul-w-in-loop-x c).Joined-w-eq0).high in omega arith

pub overflow_add-w-in-loop-x-2 : goal.overflow_add-w-in-loop-x-2
overflow_add-w-in-loop-x-2 c = let high = (blank (goal.at.overflow_add-w-in-loop-x-2 c).Joined-w-eq0).high in omega arith

pub overflow_mul-w-then-len-w-2 : goal.overflow_mul-w-then-len-w-2
overflow_mul-w-then-len-w-2 c = let high = (blank (goal.at.overflow_mul-w-then-len-w-2 c).Joined-w-eq0).high in omega arith

pub last_block-requires-then-len-w-2 : goal.last_block-requires-then-len-w-2
last_block-requires-then-len-w-2 c = omega (arith, (blank (goal.at.last_block-requires-then-len-w-2 c).Joined-w-eq0).high)

pub word_in-x-requires : goal.word_in-x-requires
word_in-x-requires c = omega arith

pub loop-x-smaller : goal.loop-x-smaller
loop-x-smaller c = let low = (blank (goal.at.loop-x-smaller c).Joined-w-eq0).low in omega arith

pub word_block-requires : goal.word_block-requires
word_block-requires c = (c.loop-x.invariant.0, found c)

pub returns : goal.returns
returns c = c.word_block.ensures
