-- `null_by_stretches` meets its contract. Assumes nothing.
use Rattle.std.proofs.Common.{◌≡◌, ◌+◌, ◌*◌, min, sym, ap, ◌∙◌, arith}
use Rattle.format.specs.Node.{rows, valid}
use Rattle.stretches.specs.Stretches.{kept_in}
use Rattle.stretches.specs.declared.told.Stretches.{Stretches}
use Rattle.nesting.proofs.ByKind.{rows-small, skip-small}
use Rattle.stretches.proofs.Minding.{alike-first}
use Rattle.kept_data.proofs.Nulls.{marks-fit, valid-bit, word-valid, any-start, null-valid, null-valids, null-dropped, null-none, null-found}
use Rattle.kept_data.proofs.data.null_by_stretches.Goals as goal
use Rattle.kept_data.proofs.data.null_by_stretches.Goals.{else-not-bit-via-then-not-bit+else-told, else-not-bit-via-else-not-bit}

pub loop-w-init : goal.loop-w-init
loop-w-init c = let z : min (rows c.args.counted.journal.now.bytes.now c.args.node) 0 ≡ 0 = omega arith in (c.new-stretches.ensures.counted, rw z (any-start _))

pub overflow_add-first : goal.overflow_add-first
overflow_add-first c =
    let s = c.args.counted.ready.sound in
    omega (arith, c.requires.first, marks-fit s c.requires.inside c.requires.bitmap, skip-small s c.args.node c.requires.inside, rows-small s c.args.node c.requires.inside)

-- a word of valid rows
pub loop-w-preserved-then-load64 : goal.loop-w-preserved-then-load64
loop-w-preserved-then-load64 c =
    let r = c.requires in
    let n = rows c.args.counted.journal.now.bytes.now c.args.node in
    let all = word-valid c.args.counted.ready.sound r.inside r.bitmap r.first c.load64.ensures c.if-load64.true in (
      c.loop-w.invariant.0,
      null-valids (kept_in c.args.counted c.args.node) (valid c.args.counted.journal.now.bytes.now c.args.node) (min n (64 * c.loop-w.w)) (min n (64 * (c.loop-w.w + 1))) (omega arith)
          (record { at = λ j l h. all.at j (omega arith) (omega arith) }) c.loop-w.invariant.1,
    )

pub overflow_add-base : goal.overflow_add-base
overflow_add-base c = omega (arith, rows-small c.args.counted.ready.sound c.args.node c.requires.inside)

pub loop-row-init : goal.loop-row-init
loop-row-init c =
    let n = rows c.args.counted.journal.now.bytes.now c.args.node in
    let z : min n (64 * c.loop-w.w) ≡ 64 * c.loop-w.w = omega arith in
    (c.loop-w.invariant.0, rw z at c.loop-w.invariant.1)

pub overflow_add-first-in-loop-row : goal.overflow_add-first-in-loop-row
overflow_add-first-in-loop-row c =
    let s = c.args.counted.ready.sound in
    omega (arith, c.requires.first, marks-fit s c.requires.inside c.requires.bitmap, skip-small s c.args.node c.requires.inside, rows-small s c.args.node c.requires.inside)

pub returns-then-told : goal.returns-then-told
returns-then-told c =
    let r = c.requires in
    null-found c.args.counted r.inside c.loop-row.row (omega arith) (sym (valid-bit c.args.counted.ready.sound r.inside r.bitmap r.first c.loop-row.row) ∙ sym c.if-not-bit.ensures)
    (alike-first (rw c.loop-row.invariant.0 at c.told.ensures.alike) ∙ c.if-told.true)

pub loop-row-preserved : goal.loop-row-preserved
loop-row-preserved c =
    let r = c.requires in
    let k = c.loop-row.invariant in
    let keeps = kept_in c.args.counted c.args.node in
    let fine = valid c.args.counted.journal.now.bytes.now c.args.node in
    elim c.else-not-bit.branch [
      | else-not-bit-via-then-not-bit+else-told w ↦ (
        ap (λ (s : Stretches). s.counted) w.stretches-is ∙ w.told.ensures.same ∙ k.0,
        null-dropped keeps fine c.loop-row.row k.1 (alike-first (rw k.0 at w.told.ensures.alike) ∙ w.if-told.false),
      )
      | else-not-bit-via-else-not-bit w ↦ (
        ap (λ (s : Stretches). s.counted) w.stretches-is ∙ k.0,
        null-valid keeps fine c.loop-row.row k.1 (sym (valid-bit c.args.counted.ready.sound r.inside r.bitmap r.first c.loop-row.row) ∙ sym c.bit.ensures ∙ w.if-not-bit.false),
      )
    ]

pub loop-w-preserved : goal.loop-w-preserved
loop-w-preserved c =
    let n = rows c.args.counted.journal.now.bytes.now c.args.node in
    let z : c.loop-row.row ≡ min n (64 * (c.loop-w.w + 1)) = omega arith in
    (c.loop-row.invariant.0, rw z at c.loop-row.invariant.1)

pub returns : goal.returns
returns c =
    let n = rows c.args.counted.journal.now.bytes.now c.args.node in
    null-none c.args.counted c.requires.inside (min n (64 * c.loop-w.w)) (omega arith) c.loop-w.invariant.1
