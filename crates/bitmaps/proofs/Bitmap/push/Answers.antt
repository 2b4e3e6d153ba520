-- `bitmaps::Bitmap::push` meets its contract: a word that is handed back is written. Assumes nothing.
use mathlib.Core.Path.{refl}
use native.Mathlib.Omega.{arith}
use Rattle.format.specs.Words.{low_bits}
use Rattle.format.proofs.WordLaws.{length-low}
use Rattle.bitmaps.proofs.PushLaws.{adds-none, adds-word, word-room}
use Rattle.bitmaps.proofs.Bitmap.push.Goals as goal

pub put-next-requires : goal.put-next-requires
put-next-requires c =
    let a = c.args in
    word-room a.self.now (low_bits a.n a.bits) a.n (length-low a.n a.bits) c.requires.room c.in-Some.ensures

pub returns-in-Some : goal.returns-in-Some
returns-in-Some c = adds-word (omega (arith, length-low c.args.n c.args.bits)) refl _ c.in-Some.ensures c.put-next.ensures

pub returns-in_default : goal.returns-in_default
returns-in_default c = adds-none (omega (arith, length-low c.args.n c.args.bits)) refl (rw c.in_default.is at c.push.ensures) refl refl
