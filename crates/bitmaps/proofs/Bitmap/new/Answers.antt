-- `bitmaps::Bitmap::new` meets its contract: nothing is packed yet. Assumes nothing.
use mathlib.Core.Path.{refl}
use Rattle.bitmaps.proofs.PushLaws.{packs-none}
use Rattle.bitmaps.proofs.Bitmap.new.Goals as goal

pub returns-clause-begun : goal.returns-clause-begun
returns-clause-begun c = packs-none refl refl c.new.ensures
