-- `Stretches::new` meets its contract: nothing is in mind. Assumes nothing.
use Rattle.stretches.proofs.Minding.{recalled_none}
use Rattle.stretches.proofs.told.Stretches.new.Goals as goal

pub invariant_of-result : goal.invariant_of-result
invariant_of-result c = record { recalled = recalled_none _ _ 64 }
