-- `filter::list_short` meets its contract. Assumes nothing.
use Rattle.filter.proofs.list_short.Goals as goal

pub returns-then-asked : goal.returns-then-asked
returns-then-asked c = rw (c.if-asked.true, c.list_entries.ensures)
