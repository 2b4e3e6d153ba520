-- `journal::Journal::new` meets its contract. Assumes nothing.
use Rattle.format.specs.Node.{table_start}
use Rattle.journal.proofs.Journal.new.Goals as goal

pub invariant_of-result : goal.invariant_of-result
unfolding table_start
invariant_of-result c = record { sound = c.requires; starts = c.get.ensures.value; above = c.parents_of.ensures }
