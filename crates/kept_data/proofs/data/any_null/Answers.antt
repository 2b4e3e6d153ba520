-- `any_null` meets its contract. Assumes nothing.
use Rattle.std.proofs.Common.{sym, ◌∙◌, arith}
use Rattle.format.specs.Node.{places}
use Rattle.slots.specs.Slot.{slot_in}
use Rattle.journal.proofs.Marks.{unmarked, marked-at}
use Rattle.kept_data.proofs.Nulls.{no-nulls, marks-fit, valid-bit}
use Rattle.kept_data.proofs.Rooted.{root-null}
use Rattle.kept_data.proofs.data.any_null.Goals as goal

pub returns-in_default : goal.returns-in_default
returns-in_default c = no-nulls _ _ _ (unmarked c.args.counted.journal.now.bytes.now c.args.node (sym c.in_default.is ∙ c.marks.ensures))

pub null_at_root-requires : goal.null_at_root-requires
unfolding places
null_at_root-requires c =
    let sound = c.args.counted.ready.sound in
    let m = marked-at c.args.counted.journal.now.bytes.now c.args.node (sym c.in-Some.is ∙ c.marks.ensures) in
    record { first_bound = omega (arith, m.1, marks-fit sound c.requires.inside (m.0), sound.agree.limit c.args.node c.requires.inside) }

pub returns-then-at_root : goal.returns-then-at_root
returns-then-at_root c =
    let m = marked-at c.args.counted.journal.now.bytes.now c.args.node (sym c.in-Some.is ∙ c.marks.ensures) in
    c.null_at_root.ensures
    ∙ root-null _ _ _ _ (slot_in c.args.counted.source) _ (valid-bit c.args.counted.ready.sound c.requires.inside (m.0) (m.1)) (c.at_root.ensures.same c.if-at_root.true _)

pub null_by_stretches-requires : goal.null_by_stretches-requires
null_by_stretches-requires c =
    let m = marked-at c.args.counted.journal.now.bytes.now c.args.node (sym c.in-Some.is ∙ c.marks.ensures) in
    record { inside = c.requires.inside; known = c.requires.known; bitmap = m.0; first = m.1 }
