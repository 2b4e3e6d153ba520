-- `checker::fields::misfits` meets its contract. Assumes nothing.
use Rattle.format.specs.Verdict.{misused}
use Rattle.pack.proofs.Bitmap.{none-just}
use Rattle.checker.proofs.fields.misfits.Goals as goal

pub returns : goal.returns
unfolding misused
returns c = rw (none-just _ _ _ _ c.bitmap.ensures c.is_none.ensures)
