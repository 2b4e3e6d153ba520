-- `text_columns::filter_texts` meets its contract: each block writes its rows' own bytes, the first of those that are left. Assumes nothing.
use Rattle.text_columns.proofs.TextWalk.{walk-none, walk-run, walk-needs, walk-more, walk-done}
use Rattle.text_columns.proofs.filter_texts.Goals as goal

pub loop-block-init : goal.loop-block-init
loop-block-init c = walk-none c.requires.texts c.new-block-items.ensures.begun c.into_iter-block-iterator.ensures.into_iter_gives

pub put_run-here-requires : goal.put_run-here-requires
put_run-here-requires c =
    let n = rw c.in-Run.is at c.in-Some.ensures.steps.block in
    record { a_le_e = walk-run c.loop-block.invariant n c.requires.texts; a_in_bounds = (walk-needs c.loop-block.invariant n c.requires.room).1 }

pub loop-block-preserved-in-Run : goal.loop-block-preserved-in-Run
loop-block-preserved-in-Run c =
    walk-more c.loop-block.invariant (rw c.in-Run.is at c.in-Some.ensures.steps.block) c.put_run-here.ensures

pub put_word-here-requires : goal.put_word-here-requires
put_word-here-requires c =
    let both = walk-needs c.loop-block.invariant (rw c.in-Word.is at c.in-Some.ensures.steps.block) c.requires.room in
    record { among = both.0; word_in_bounds = both.1 }

pub loop-block-preserved-in-Word : goal.loop-block-preserved-in-Word
loop-block-preserved-in-Word c =
    walk-more c.loop-block.invariant (rw c.in-Word.is at c.in-Some.ensures.steps.block) c.put_word-here.ensures

pub put_list-here-requires : goal.put_list-here-requires
put_list-here-requires c =
    let both = walk-needs c.loop-block.invariant (rw c.in-Listed.is at c.in-Some.ensures.steps.block) c.requires.room in
    record { among = both.0; rows_in_bounds = both.1 }

pub loop-block-preserved : goal.loop-block-preserved
loop-block-preserved c =
    walk-more c.loop-block.invariant (rw c.in-Listed.is at c.in-Some.ensures.steps.block) c.put_list-here.ensures

pub returns : goal.returns
returns c = walk-done c.loop-block.invariant c.in-None.ensures.steps.block.gives
