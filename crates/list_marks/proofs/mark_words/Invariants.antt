-- What the loop of `mark_words` keeps: the child rows of the picked valid rows of the first m words are marked. Assumes nothing.
use Prim.Native.Nat.{◌*◌}
use mathlib.Core.Bool.{◌&&◌}
use Rattle.format.specs.Node.{valid, first_number}
use Rattle.format.specs.Slots.{picks_from}
use Rattle.slots.specs.Source.{slot_of}
use Rattle.marks.specs.Marks.{Marked}
use Rattle.list_marks.specs.Spans.{in_spans}
use Rattle.list_marks.proofs.mark_words.Given as goal

abbrev pub invariant-loop-m : goal.invariant-loop-m
invariant-loop-m l =
    let b = l.list.journal.now.bytes.now in
    Marked (in_spans (first_number l.list.width b l.list.node) (picks_from (λ r. slot_of l.source.bytes.now l.source.bits r && valid b l.list.node r) (64 * l.m) 0)) l.initial.region l.region
