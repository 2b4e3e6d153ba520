-- `columns::native::filter_native` meets its contract. What is left to write are the entries of the rows that the blocks have yet to give; each arm writes a block's. Assumes nothing.
use Rattle.std.specs.Prelude.{Some}
use Rattle.predicate.specs.declared.Block.TheVariants.{Run, Word, Listed}
use Rattle.predicate.specs.Blocks.{GivesBlock}
use Rattle.append.proofs.CellLaws.{words-one}
use Rattle.columns.proofs.Walk.{walk-on_none, walk_more, walk-fits, walk-done}
use Rattle.columns.proofs.Passing.{walk-goes-on}
use Rattle.columns.proofs.EntryWalk.{entries-cut, run-needs, block-needs-on}
use Rattle.columns.proofs.native.filter_native.Goals as goal
use Rattle.columns.proofs.native.filter_native.Goals.{In-Run, In-Word, In-Listed}

pub loop-block-init : goal.loop-block-init
loop-block-init c = walk-on_none c.new-blocks.ensures.begun

run : (c : In-Run) → GivesBlock c.loop-block.blocks (Some (Run c.in-Run.start c.in-Run.end)) c.next.new.self
run c = rw c.in-Run.is at c.in-Some.ensures.steps.block

word : (c : In-Word) → GivesBlock c.loop-block.blocks (Some (Word c.in-Word.base c.in-Word.word)) c.next.new.self
word c = rw c.in-Word.is at c.in-Some.ensures.steps.block

listed : (c : In-Listed) → GivesBlock c.loop-block.blocks (Some (Listed c.in-Listed.rows)) c.next.new.self
listed c = rw c.in-Listed.is at c.in-Some.ensures.steps.block

pub copy_rows-here-requires : goal.copy_rows-here-requires
copy_rows-here-requires c = run-needs c.loop-block.invariant c.requires.entries c.requires.len_in_bounds (run (goal.at.copy_rows-here-requires c).In-Run)

pub pass_runs-here-requires-clause-place_in_bounds : goal.pass_runs-here-requires-clause-place_in_bounds
pass_runs-here-requires-clause-place_in_bounds c =
    walk-fits (walk_more c.loop-block.invariant (entries-cut _ _ _) (run (goal.at.pass_runs-here-requires-clause-place_in_bounds c).In-Run) c.in-Some.ensures.goes.keeps c.copy_rows-here.ensures) c.requires.len_in_bounds

pub loop-block-preserved-in-Run : goal.loop-block-preserved-in-Run
loop-block-preserved-in-Run c =
    walk-goes-on (entries-cut _ _ _) (walk_more c.loop-block.invariant (entries-cut _ _ _) (run (goal.at.loop-block-preserved-in-Run c).In-Run) c.in-Some.ensures.goes.keeps c.copy_rows-here.ensures) c.pass_runs-here.ensures

pub gather_words-here-requires-clause-among : goal.gather_words-here-requires-clause-among
gather_words-here-requires-clause-among c = rw words-one (block-needs-on c.loop-block.invariant c.requires.entries c.requires.len_in_bounds (word (goal.at.gather_words-here-requires-clause-among c).In-Word)).0

pub gather_words-here-requires-clause-words_in_bounds : goal.gather_words-here-requires-clause-words_in_bounds
gather_words-here-requires-clause-words_in_bounds c = rw words-one (block-needs-on c.loop-block.invariant c.requires.entries c.requires.len_in_bounds (word (goal.at.gather_words-here-requires-clause-words_in_bounds c).In-Word)).1

pub pass_words-here-requires-clause-place_in_bounds : goal.pass_words-here-requires-clause-place_in_bounds
pass_words-here-requires-clause-place_in_bounds c =
    walk-fits (walk_more c.loop-block.invariant (entries-cut _ _ _) (word (goal.at.pass_words-here-requires-clause-place_in_bounds c).In-Word) c.in-Some.ensures.goes.keeps (rw words-one at c.gather_words-here.ensures)) c.requires.len_in_bounds

pub loop-block-preserved-in-Word : goal.loop-block-preserved-in-Word
loop-block-preserved-in-Word c =
    walk-goes-on (entries-cut _ _ _) (walk_more c.loop-block.invariant (entries-cut _ _ _) (word (goal.at.loop-block-preserved-in-Word c).In-Word) c.in-Some.ensures.goes.keeps (rw words-one at c.gather_words-here.ensures)) c.pass_words-here.ensures

pub gather_list-here-requires-clause-among : goal.gather_list-here-requires-clause-among
gather_list-here-requires-clause-among c = (block-needs-on c.loop-block.invariant c.requires.entries c.requires.len_in_bounds (listed (goal.at.gather_list-here-requires-clause-among c).In-Listed)).0

pub gather_list-here-requires-clause-rows_in_bounds : goal.gather_list-here-requires-clause-rows_in_bounds
gather_list-here-requires-clause-rows_in_bounds c = (block-needs-on c.loop-block.invariant c.requires.entries c.requires.len_in_bounds (listed (goal.at.gather_list-here-requires-clause-rows_in_bounds c).In-Listed)).1

pub loop-block-preserved : goal.loop-block-preserved
loop-block-preserved c =
    walk_more c.loop-block.invariant (entries-cut _ _ _) (listed (goal.at.loop-block-preserved c).In-Listed) c.in-Some.ensures.goes.keeps c.gather_list-here.ensures

pub returns : goal.returns
returns c = walk-done c.loop-block.invariant (entries-cut _ _ _) c.in_default.ensures.steps.block
