-- `predicate::word_block` meets its contract: the word's rows one by one, or its first run. Assumes nothing.
use Rattle.std.proofs.Common.{◌+◌, ◌*◌, refl, arith}
use lib.Count.{count_trailing_zeros}
use Rattle.slots.specs.Slot.{slot_in}
use Rattle.slots.proofs.Reading.{slot-past}
use Rattle.predicate.specs.Blocks.{Ran}
use Rattle.predicate.proofs.WordRuns.{run-leaves, found_word, found-on, found-run}
use Rattle.predicate.proofs.word_block.Goals as goal
use Rattle.predicate.proofs.word_block.Goals.{Joined-y-eq0, then-y-eq0, else-y-eq0}

pub returns-then-not-few-long : goal.returns-then-not-few-long
returns-then-not-few-long c = (omega arith, found_word c.requires.1 (slot-past _ _) (omega arith) refl)

-- where the run ends: behind the words of ones that follow, or at the first row after it that is not kept
ran : (c : Joined-y-eq0) →
    let a = c.args in
    Ran (slot_in a.source) a.source.bits.len a.place (64 * a.w + count_trailing_zeros 64 a.x) c.if-y-eq0.e
ran c =
    let f = c.requires.1 in
    elim (c.if-y-eq0.branch) [
      | then-y-eq0 v ↦ rw v.e-is (found-on f refl v.if-y-eq0.true refl v.run_end-e.ensures)
      | else-y-eq0 v ↦ rw v.e-is (found-run f refl v.if-y-eq0.false (omega (arith, c.requires.0)))
    ]

pub returns : goal.returns
returns c =
    let r = ran (goal.at.returns c).Joined-y-eq0 in
    let some = r.some in
    let high = r.high in
    ((omega arith, high), run-leaves r refl)
