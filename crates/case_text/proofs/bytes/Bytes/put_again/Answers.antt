-- Each byte is put behind those before it; without forty of them, or without room, all that is left puts nothing. Assumes nothing.
use Rattle.std.proofs.Common.{arith, ◌∙◌, sym, length-take-le}
use Rattle.case_text.proofs.Putting.{again-few, again-full, again-step, again-done}
use Rattle.case_text.proofs.bytes.Bytes.put_again.Goals as goal
use Rattle.case_text.proofs.bytes.Bytes.put_again.Goals.{then-self-lt40-via-then-self-lt40, then-self-lt40-via-else-self-lt40+then-self}

pub returns-then-self-lt40-clause-bytes : goal.returns-then-self-lt40-clause-bytes
returns-then-self-lt40-clause-bytes c =
    let s = c.loop-done.self in
    let i = c.loop-done.invariant in
    let long = length-take-le s.len s.buffer.now s.fits in
    elim c.then-self-lt40.branch [
      | then-self-lt40-via-then-self-lt40 w ↦ record { room = i.1; bytes = sym (again-few _ _ _ (omega (arith, long))) ∙ i.2 }
      | then-self-lt40-via-else-self-lt40+then-self w ↦ record { room = i.1; bytes = sym (again-full _ _ _ (omega (arith, long, i.1))) ∙ i.2 }
    ]

pub loop-done-preserved : goal.loop-done-preserved
loop-done-preserved c =
    let s = c.loop-done.self in
    let i = c.loop-done.invariant in
    let p = c.put_byte.ensures in
    (p.same_reference ∙ i.0, p.bytes.room ∙ i.1, again-step _ s.buffer.now s.len _ _ i.1 s.fits (omega arith) (omega arith) p.bytes.bytes ∙ i.2)

pub returns-clause-bytes : goal.returns-clause-bytes
returns-clause-bytes c =
    let i = c.loop-done.invariant in
    record { room = i.1; bytes = sym (again-done _ _ _ (omega arith)) ∙ i.2 }
