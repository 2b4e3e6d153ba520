-- `list_marks::mark_words` meets its contract. The loop's invariant: the child rows of the picked valid rows of the first m words are marked. Assumes nothing.
use Prim.Native.Nat.{◌+◌, ◌*◌}
use native.Mathlib.Omega.{arith}
use Rattle.format.specs.Node.{valid, first_number}
use Rattle.slots.specs.Source.{slot_of}
use Rattle.slots.proofs.Reading.{slot-past}
use Rattle.nesting.proofs.Picks.{none-past}
use Rattle.list_marks.proofs.Words.{word_below, words-none, words_more, words_same, words-all}
use Rattle.list_marks.proofs.mark_words.Goals as goal

pub loop-m-init : goal.loop-m-init
loop-m-init c =
    let a = c.args in
    let b = a.list.journal.now.bytes.now in
    words-none (slot_of a.source.bytes.now a.source.bits) (valid b a.list.node) (first_number a.list.width b a.list.node)

pub overflow_mul-base : goal.overflow_mul-base
overflow_mul-base c = omega (arith, c.args.source.lies.small, c.args.source.lies.values)

pub valid_rows-requires : goal.valid_rows-requires
valid_rows-requires c = omega (arith, c.args.source.lies.small, c.args.source.lies.values)

pub mark_rows-requires : goal.mark_rows-requires
mark_rows-requires c =
    let q = c.requires in
    record {
      below = word_below _ _ _ (none-past _ _ _ q.sifted) _ c.word-word.ensures c.valid_rows.ensures;
      room = omega (arith, q.room, c.loop-m.invariant.size);
    }

pub loop-m-preserved : goal.loop-m-preserved
loop-m-preserved c = words_more _ _ _ (64 * c.loop-m.m) (64 * (c.loop-m.m + 1)) (omega arith) c.loop-m.invariant c.word-word.ensures c.valid_rows.ensures c.mark_rows.ensures

pub loop-m-preserved-then-word-eq0 : goal.loop-m-preserved-then-word-eq0
loop-m-preserved-then-word-eq0 c = words_same _ _ _ (64 * c.loop-m.m) (64 * (c.loop-m.m + 1)) (omega arith) c.loop-m.invariant c.if-word-eq0.true c.word-word.ensures

pub shape_of-region : goal.shape_of-region
shape_of-region c = c.loop-m.invariant.size

pub returns : goal.returns
returns c =
    let a = c.args in
    let b = a.list.journal.now.bytes.now in
    words-all (slot_of a.source.bytes.now a.source.bits) (valid b a.list.node) (first_number a.list.width b a.list.node) a.source.bits.len (64 * c.loop-m.m) (omega arith) (λ j h. slot-past _ _ j h) c.loop-m.invariant
