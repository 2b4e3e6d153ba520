-- `journal::Journal::has_no_bitmap` meets its contract. Assumes nothing.
use Rattle.pack.proofs.Bitmap.{none-just}
use Rattle.journal.proofs.Journal.has_no_bitmap.Goals as goal

pub returns : goal.returns
returns c = none-just _ _ _ _ c.marks.ensures c.is_none.ensures
