-- `bytes_by_runs` meets its contract. Assumes nothing.
use Rattle.std.proofs.Common.{◌≡◌, ap, ◌∙◌, arith}
use native.Mathlib.Nat.{zero-add}
use Rattle.format.specs.Kept.{kept_rows}
use Rattle.nesting.specs.Rows.{picks_in}
use Rattle.spans.specs.Spans.{offset_from, spans}
use Rattle.stretches.proofs.Ranges.{among-first, among_rest, among-left, rows-left, spans-rise, spans-off, spans-end}
use Rattle.kept_data.proofs.Texts.{offset-lies, offsets-rise, own-kept}
use Rattle.kept_data.proofs.data.bytes_by_runs.Goals as goal

pub loop-from-init : goal.loop-from-init
loop-from-init c =
    let b = c.new-from-items.ensures in
    let o = offset_from c.args.offsets.width c.args.counted.journal.now.bytes.now c.args.offsets.first in
    rw c.into_iter-from-iterator.ensures.into_iter_gives (among-left b, zero-add _ ∙ ap (spans o) (rows-left b))

pub get-requires-clause-inside : goal.get-requires-clause-inside
get-requires-clause-inside c =
    let r = c.requires in
    offset-lies c.args.counted.ready.sound r.inside r.first r.offsets _ ((among-first c.in-Some.ensures.steps c.loop-from.invariant.0).1)

pub get-requires-in-loop-from-clause-inside : goal.get-requires-in-loop-from-clause-inside
get-requires-in-loop-from-clause-inside c =
    let r = c.requires in
    let (some, high) = among-first c.in-Some.ensures.steps c.loop-from.invariant.0 in
    offset-lies c.args.counted.ready.sound r.inside r.first r.offsets _ (omega arith)

pub overflow_sub-n : goal.overflow_sub-n
overflow_sub-n c =
    let r = c.requires in
    omega (arith, spans-rise (offsets-rise c.args.counted.ready.sound r.inside r.first r.offsets) c.in-Some.ensures.steps c.loop-from.invariant.0, c.get.ensures, c.get-in-loop-from.ensures)

pub overflow_add-n : goal.overflow_add-n
overflow_add-n c =
    let r = c.requires in
    omega (
      arith,
      spans-off (offsets-rise c.args.counted.ready.sound r.inside r.first r.offsets) c.in-Some.ensures.steps c.loop-from.invariant.0,
      c.get.ensures,
      c.get-in-loop-from.ensures,
      c.loop-from.invariant.1,
      (own-kept c.args.counted r.inside r.first r.offsets).1,
      r.offsets.data_lies,
      c.args.counted.ready.sound.shape.table,
      c.args.counted.ready.sound.shape.small,
    )

pub loop-from-preserved : goal.loop-from-preserved
loop-from-preserved c =
    let r = c.requires in (
      among_rest c.in-Some.ensures.steps c.loop-from.invariant.0,
      omega (
        arith,
        spans-off (offsets-rise c.args.counted.ready.sound r.inside r.first r.offsets) c.in-Some.ensures.steps c.loop-from.invariant.0,
        c.get.ensures,
        c.get-in-loop-from.ensures,
        c.loop-from.invariant.1,
      ),
    )

pub returns : goal.returns
returns c =
    let r = c.requires in
    let o = offset_from c.args.offsets.width c.args.counted.journal.now.bytes.now c.args.offsets.first in
    let all : c.loop-from.n ≡ spans o (kept_rows c.args.counted.journal.now.bytes.now (picks_in c.args.counted.source) c.args.node) = omega (arith, spans-end o c.in-None.ensures.steps.0, c.loop-from.invariant.1) in
    rw all (own-kept c.args.counted r.inside r.first r.offsets)
