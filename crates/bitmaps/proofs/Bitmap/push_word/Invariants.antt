-- What the loop of `push_word` keeps. Assumes nothing.
use Rattle.std.proofs.Common.{◌≡◌}
use Rattle.bitmaps.proofs.WordWalk.{Worded}
use Rattle.bitmaps.proofs.Bitmap.push_word.Given as goal

abbrev pub invariant-loop-from : goal.invariant-loop-from
invariant-loop-from l = (l.from-iterator.base ≡ l.base) × Worded l.column.values.now l.column.from l.base l.word l.initial.self l.self l.from-iterator.rest
