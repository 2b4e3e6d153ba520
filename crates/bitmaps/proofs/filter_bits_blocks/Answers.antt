-- `bitmaps::filter_bits_blocks` meets its contract. The invariant: the bits of the rows that the blocks gave are packed. Assumes nothing.
use mathlib.Core.Path.{refl, sym, ◌∙◌}
use borrow.Author.Rules.{rules}
use Rattle.std.specs.Prelude.{Some}
use Rattle.format.proofs.SlotLaws.{length_up}
use Rattle.predicate.specs.declared.Block.TheVariants.{Run, Word, Listed}
use Rattle.predicate.specs.Blocks.{GivesBlock}
use Rattle.predicate.proofs.Steps.{rows-start}
use Rattle.bitmaps.proofs.PushLaws.{packs-done, flush-room, left-in}
use Rattle.bitmaps.proofs.BlockWalk.{walk_none, walk_more, walk-room, walk-done}
use Rattle.bitmaps.proofs.filter_bits_blocks.Goals as goal
use Rattle.bitmaps.proofs.filter_bits_blocks.Goals.{In-Run, In-Word, In-Listed}

run : (c : In-Run) → GivesBlock c.loop-block.block-iterator (Some (Run c.in-Run.start c.in-Run.end)) c.next.new.self
run c = rw c.in-Run.is at c.in-Some.ensures.steps.block

word : (c : In-Word) → GivesBlock c.loop-block.block-iterator (Some (Word c.in-Word.base c.in-Word.word)) c.next.new.self
word c = rw c.in-Word.is at c.in-Some.ensures.steps.block

listed : (c : In-Listed) → GivesBlock c.loop-block.block-iterator (Some (Listed c.in-Listed.rows)) c.next.new.self
listed c = rw c.in-Listed.is at c.in-Some.ensures.steps.block

pub loop-block-init : goal.loop-block-init
loop-block-init c = record {
  same = rw c.into_iter-block-iterator.ensures.into_iter_gives c.new-block-items.ensures.begun.0;
  walked = walk_none c.new-to.ensures.begun (rw c.into_iter-block-iterator.ensures.into_iter_gives (rows-start c.new-block-items.ensures.begun));
  same_reference = refl;
}

pub push_run-requires-clause-room : goal.push_run-requires-clause-room
push_run-requires-clause-room c = walk-room c.loop-block.invariant.walked _ _ (run (goal.at.push_run-requires-clause-room c).In-Run).gives.1 _ (sym (length_up _ _)) c.requires.len_in_bounds

pub loop-block-preserved-in-Run : goal.loop-block-preserved-in-Run
loop-block-preserved-in-Run c =
    let l = c.loop-block.invariant in
    let g = run (goal.at.loop-block-preserved-in-Run c).In-Run in
    record { same = g.same ∙ l.same; walked = walk_more l.walked _ _ g.gives.1 c.push_run.ensures; same_reference = c.push_run.ensures.same_reference ∙ l.same_reference }

pub push_word-requires-clause-room : goal.push_word-requires-clause-room
push_word-requires-clause-room c = walk-room c.loop-block.invariant.walked _ _ (word (goal.at.push_word-requires-clause-room c).In-Word).gives.1 _ refl c.requires.len_in_bounds

pub loop-block-preserved-in-Word : goal.loop-block-preserved-in-Word
loop-block-preserved-in-Word c =
    let l = c.loop-block.invariant in
    let g = word (goal.at.loop-block-preserved-in-Word c).In-Word in
    record { same = g.same ∙ l.same; walked = walk_more l.walked _ _ g.gives.1 c.push_word.ensures; same_reference = c.push_word.ensures.same_reference ∙ l.same_reference }

pub push_rows-requires-clause-room : goal.push_rows-requires-clause-room
push_rows-requires-clause-room c = walk-room c.loop-block.invariant.walked _ _ (listed (goal.at.push_rows-requires-clause-room c).In-Listed).gives.1 _ refl c.requires.len_in_bounds

pub loop-block-preserved : goal.loop-block-preserved
loop-block-preserved c =
    let l = c.loop-block.invariant in
    let g = listed (goal.at.loop-block-preserved c).In-Listed in
    record { same = g.same ∙ l.same; walked = walk_more l.walked _ _ g.gives.1 c.push_rows.ensures; same_reference = c.push_rows.ensures.same_reference ∙ l.same_reference }

-- no row is left: all bits are packed
pub flush-requires : goal.flush-requires
flush-requires c = flush-room (walk-done c.loop-block.invariant.walked c.in-None.ensures.steps.block.gives) c.requires.len_in_bounds

pub returns : goal.returns
returns c =
    let same = c.loop-block.invariant.same_reference ∙ c.new-to.ensures.same_reference in
    left-in (search rules) (packs-done (walk-done c.loop-block.invariant.walked c.in-None.ensures.steps.block.gives) c.flush.ensures)
