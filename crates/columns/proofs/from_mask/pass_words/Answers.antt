-- `columns::from_mask::pass_words` meets its contract: the rows up to word w are written; a turn writes those of the words ahead. Assumes nothing.
use mathlib.Core.Path.{refl}
use native.Mathlib.Omega.{arith}
use Rattle.columns.proofs.EntryWalk.{entries-cut}
use Rattle.columns.proofs.Passing.{pass-nothing, pass-none, pass-room, pass-among, pass-more, ahead-rows}
use Rattle.columns.proofs.from_mask.pass_words.Goals as goal

pub returns-in_default : goal.returns-in_default
returns-in_default c = pass-nothing (entries-cut _ _ _)

pub returns-then-blocks-ne0 : goal.returns-then-blocks-ne0
returns-then-blocks-ne0 c = pass-nothing (entries-cut _ _ _)

pub loop-source-init : goal.loop-source-init
loop-source-init c = pass-none (entries-cut _ _ _) (omega arith) (rw c.in-Words.is at c.requires.inside)

pub gather_words-here-requires-clause-among : goal.gather_words-here-requires-clause-among
gather_words-here-requires-clause-among c =
    let q = c.words_ahead-n.ensures in
    let h = q.inside in
    pass-among (entries-cut _ _ _) c.loop-source.invariant (omega arith) h (ahead-rows q refl) (rw c.in-Words.is at c.requires.entries)

pub gather_words-here-requires-clause-words_in_bounds : goal.gather_words-here-requires-clause-words_in_bounds
gather_words-here-requires-clause-words_in_bounds c =
    let q = c.words_ahead-n.ensures in
    let h = q.inside in
    pass-room (entries-cut _ _ _) c.loop-source.invariant (omega arith) h (ahead-rows q refl) (rw c.in-Words.is at c.requires.place_in_bounds)

pub loop-source-preserved : goal.loop-source-preserved
loop-source-preserved c =
    let q = c.words_ahead-n.ensures in
    let h = q.inside in
    pass-more (entries-cut _ _ _) c.loop-source.invariant (omega arith) h (ahead-rows q refl) c.gather_words-here.ensures
