-- A byte is read: what is left to read, behind what was read, is what was to be read at first, and ends where it was to end. Assumes nothing.
use Rattle.std.proofs.Common.{◌∙◌}
use Rattle.std.proofs.lemmas.List.{nil_from_length}
use Rattle.case_text.proofs.Putting.{read-on, read_here, read-end, rest-on}
use Rattle.case_text.proofs.put_part.Goals as goal

pub returns-then-c-clause-bytes : goal.returns-then-c-clause-bytes
returns-then-c-clause-bytes c =
    let i = c.loop-c.invariant in
    let s = c.step-word.ensures in
    record { room = s.bytes.room ∙ i.1; bytes = read_here _ _ _ i.1 c.in-Some.ensures.cases.0 s.bytes.bytes c.if-c.true ∙ i.3 }

pub loop-c-preserved : goal.loop-c-preserved
loop-c-preserved c =
    let i = c.loop-c.invariant in
    let s = c.step-word.ensures in (
      s.same_reference ∙ i.0,
      s.bytes.room ∙ i.1,
      rest-on c.in-Some.ensures.cases.0 c.if-c.false ∙ i.2,
      read-on _ _ _ i.1 c.in-Some.ensures.cases.0 s.bytes.bytes c.if-c.false s.word ∙ i.3,
    )

pub returns-clause-bytes : goal.returns-clause-bytes
returns-clause-bytes c =
    let i = c.loop-c.invariant in
    let s = c.put_word.ensures in
    record { room = s.bytes.room ∙ i.1; bytes = read-end _ _ _ i.1 (nil_from_length _ c.in_default.ensures.cases) s.bytes.bytes ∙ i.3 }
