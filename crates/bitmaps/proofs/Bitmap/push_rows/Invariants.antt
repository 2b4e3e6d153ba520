-- What the loop of `push_rows` keeps. Assumes nothing.
use lib.ListN.{take}
use Rattle.bitmaps.specs.Push.{Adds, bits_of}
use Rattle.bitmaps.proofs.Bitmap.push_rows.Given as goal

abbrev pub invariant-loop-row : goal.invariant-loop-row
invariant-loop-row l = Adds (bits_of l.column (take l.row-index l.rows)) l.initial.self l.self
