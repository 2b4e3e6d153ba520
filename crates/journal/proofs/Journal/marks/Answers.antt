-- `journal::Journal::marks` meets its contract: a bitmap stands where the node says. Assumes nothing.
use Rattle.std.proofs.Common.{ne_eqb}
use Rattle.format.specs.Node.{has_no_bitmap}
use Rattle.pack.proofs.Bitmap.{one-at}
use Rattle.journal.proofs.Journal.marks.Goals as goal

pub returns : goal.returns
unfolding has_no_bitmap
returns c =
    let n = c.node-n.ensures in
    let s = one-at _ _ _ _ c.bitmap.ensures c.in_ok-at.was in
    rw (s.0, n, ne_eqb _ _ (rw n at s.1))
