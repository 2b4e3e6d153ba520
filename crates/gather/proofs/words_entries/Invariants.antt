-- What the loop of `words_entries` keeps: the entries at the set bits of the words from the index on are still to be written. Assumes nothing.
use Rattle.std.proofs.Common.{◌+◌, ◌*◌, drop}
use Rattle.append.specs.Cells.{word_rows}
use Rattle.append.proofs.CellLaws.{Entering}
use Rattle.gather.proofs.words_entries.Given as goal

abbrev pub invariant-loop-k : goal.invariant-loop-k
invariant-loop-k g l = Entering (g.W.Width.bytes l.width) l.src l.first (word_rows l.base l.words) l.initial.out l.at l.out l.here (word_rows (l.base + 64 * l.k) (drop l.k l.words))
