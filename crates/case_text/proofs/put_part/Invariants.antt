-- What is left to read, behind what was read, is what was to be read at first, and ends where it was to end. Assumes nothing.
use Rattle.std.proofs.Common.{◌≡◌, None, length}
use Rattle.case_text.specs.Places.{part_rest}
use Rattle.case_text.specs.Words.{bytes_from}
use Rattle.case_text.specs.Filled.{filled}
use Rattle.case_text.proofs.put_part.Given as goal

abbrev pub invariant-loop-c : goal.invariant-loop-c
invariant-loop-c l =
    (l.bytes.buffer.ghost_name ≡ l.initial.bytes.buffer.ghost_name) × (length l.bytes.buffer.now ≡ length l.initial.bytes.buffer.now)
    × (part_rest l.rest ≡ part_rest l.text)
    × (bytes_from (length l.initial.bytes.buffer.now) (filled l.bytes) l.word l.rest ≡ bytes_from (length l.initial.bytes.buffer.now) (filled l.initial.bytes) None l.text)

abbrev pub decreases-loop-c : goal.decreases-loop-c
decreases-loop-c l = length l.rest
