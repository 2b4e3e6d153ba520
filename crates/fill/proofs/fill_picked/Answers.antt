-- `fill::fill_picked` meets its contract: of a runs node, or of a list; no other node takes scratch. Assumes nothing.
use Rattle.fill.proofs.Reading.{takes-other}
use Rattle.fill.proofs.fill_picked.Goals as goal

pub returns-in-Rows : goal.returns-in-Rows
returns-in-Rows c = absurd (takes-other _ _ c.requires.takes.0 c.of.ensures c.in-Rows.is)
