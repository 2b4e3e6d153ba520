-- `gather::words_entries` meets its contract. A turn takes the next word, and writes the entries at its set bits. Assumes nothing.
use Rattle.std.proofs.Common.{add-zero, drop_of_length-le, refl}
use Rattle.append.proofs.CellLaws.{words-none, words_more, rows-all, part-needs, part-more, rows-done, entries_none, entries-append}
use Rattle.gather.proofs.words_entries.Goals as goal

pub loop-k-init : goal.loop-k-init
loop-k-init g c = rows-all c.requires.among (rw add-zero)

pub entries-here-requires-clause-among : goal.entries-here-requires-clause-among
entries-here-requires-clause-among g c = rw (c.new-rows.ensures.base, c.new-rows.ensures.rest) (part-needs c.loop-k.invariant _ _ (words_more _ _ _ _ c.loop-k-test.true refl) (entries-append _ _ _ _ _) c.requires.words_in_bounds).0

pub entries-here-requires-clause-rows_in_bounds : goal.entries-here-requires-clause-rows_in_bounds
entries-here-requires-clause-rows_in_bounds g c =
    rw (c.new-rows.ensures.base, c.new-rows.ensures.rest) (part-needs c.loop-k.invariant _ _ (words_more _ _ _ _ c.loop-k-test.true refl) (entries-append _ _ _ _ _) c.requires.words_in_bounds).1

pub loop-k-preserved : goal.loop-k-preserved
loop-k-preserved g c =
    part-more c.loop-k.invariant _ _ (words_more _ _ _ _ c.loop-k-test.true refl) (entries-append _ _ _ _ _) (rw (c.new-rows.ensures.base, c.new-rows.ensures.rest) at c.entries-here.ensures)

pub returns : goal.returns
returns g c = rows-done c.loop-k.invariant (entries_none _ _ _ _ (words-none _ _ (drop_of_length-le _ c.loop-k-test.false)))
