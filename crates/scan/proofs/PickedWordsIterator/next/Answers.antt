-- `next` of `PickedWords` meets its contract: by the first word that is not empty. Assumes nothing.
use Rattle.std.proofs.Common.{arith, refl, ap}
use Rattle.format.proofs.SlotLaws.{all-less}
use Rattle.scan.proofs.Blanks.{empty_none, empty_more, empty-on, next-word}
use Rattle.scan.proofs.PickedWordsIterator.next.Goals as goal

pub loop-w-init : goal.loop-w-init
loop-w-init c = (refl, empty_none _ _ _ c.requires)

pub loop-w-preserved-then-w-eq0 : goal.loop-w-preserved-then-w-eq0
loop-w-preserved-then-w-eq0 c =
    let (e, i) = c.loop-w.invariant in
    (e, empty-on i (rw e at c.loop-w-test.true) (rw e at c.word-word.ensures) c.if-word-ne0.false (rw e at c.blank_end-w.ensures))

pub loop-w-preserved : goal.loop-w-preserved
loop-w-preserved c =
    let (e, i) = c.loop-w.invariant in
    (e, empty_more i (rw e at c.loop-w-test.true) (rw e at c.word-word.ensures) c.if-word-ne0.false)

pub returns-then-word-ne0-clause-steps : goal.returns-then-word-ne0-clause-steps
returns-then-word-ne0-clause-steps c =
    let (e, i) = c.loop-w.invariant in
    (ap (λ s. s.source) e, next-word i (rw e at c.loop-w-test.true) (rw e at c.word-word.ensures) c.if-word-ne0.true)

pub returns-then-word-ne0-clause-goes : goal.returns-then-word-ne0-clause-goes
returns-then-word-ne0-clause-goes c =
    let (e, i) = c.loop-w.invariant in
    let low = i.low in
    let h = rw e at c.loop-w-test.true in
    record { on = λ _. rw e (omega arith, tt, omega arith); keeps = rw e (omega arith); rests = λ _. tt }

pub returns-clause-steps : goal.returns-clause-steps
returns-clause-steps c =
    let (e, i) = c.loop-w.invariant in
    let h = rw e at c.loop-w-test.false in
    (ap (λ s. s.source) e, all-less h i.all)
