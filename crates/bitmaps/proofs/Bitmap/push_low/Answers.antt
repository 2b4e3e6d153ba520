-- `bitmaps::Bitmap::push_low` meets its contract: the bits that the value has above them are cut off. Assumes nothing.
use Rattle.bitmaps.proofs.PushLaws.{cut_low}
use Rattle.bitmaps.proofs.Bitmap.push_low.Goals as goal

pub returns : goal.returns
returns c = rw (cut_low c.args.value c.args.n _ c.low_ones.ensures) at c.push.ensures
