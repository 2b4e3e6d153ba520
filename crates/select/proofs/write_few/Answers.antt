-- `select::write_few` meets its contract: the list has a place for each row. Assumes nothing.
use Rattle.nesting.proofs.Picks.{count-picks}
use Rattle.select.specs.Routed.{by_rows}
use Rattle.select.proofs.write_few.Goals as goal

pub write_listed-requires : goal.write_listed-requires
write_listed-requires c = record { goes = by_rows; room = rw (count-picks _ _) c.requires.few; ready = c.requires.ready }
