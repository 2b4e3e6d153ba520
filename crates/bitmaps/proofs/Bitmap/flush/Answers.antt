-- `bitmaps::Bitmap::flush` meets its contract: the fields of the packer give its bits. Assumes nothing.
use mathlib.Core.Path.{◌≡◌, ap, sym, ◌∙◌}
use native.Mathlib.Omega.{arith}
use lib.ListN.{length}
use Rattle.format.specs.Bytes.{bytes_for}
use Rattle.format.specs.Words.{word_of}
use Rattle.format.proofs.WordLaws.{length-low, word_low}
use Rattle.bitmaps.proofs.Bitmap.flush.Goals as goal
use Rattle.bitmaps.proofs.Bitmap.flush.Goals.{After-put_number}

pub put_number-requires : goal.put_number-requires
unfolding bytes_for
put_number-requires c =
    let p = c.packer in
    let filled : length c.args.self.packer ≡ p.inside.filled = ap length (sym p.view_is) ∙ length-low p.inside.filled p.inside.current in
    omega (arith, c.requires)

pub returns : goal.returns
unfolding bytes_for
returns c =
    let p = c.packer in
    let filled : length c.args.self.packer ≡ p.inside.filled = ap length (sym p.view_is) ∙ length-low p.inside.filled p.inside.current in
    let word : word_of c.args.self.packer ≡ p.inside.current = ap word_of (sym p.view_is) ∙ word_low p.inside.filled p.inside.current p.invariant.1 in
    rw (filled, word) c.put_number.ensures
