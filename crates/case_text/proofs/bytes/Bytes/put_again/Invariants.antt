-- What is left to put, behind what was put, is what was to be put at first. Assumes nothing.
use Rattle.std.proofs.Common.{◌≡◌, ◌*◌, ◌-◌, length}
use Rattle.case_text.specs.Words.{put_again}
use Rattle.case_text.specs.Filled.{filled}
use Rattle.case_text.proofs.bytes.Bytes.put_again.Given as goal

abbrev pub invariant-loop-done : goal.invariant-loop-done
invariant-loop-done l =
    (l.self.buffer.ghost_name ≡ l.initial.self.buffer.ghost_name) × (length l.self.buffer.now ≡ length l.initial.self.buffer.now)
    × (put_again (length l.initial.self.buffer.now) (filled l.self) (l._done-end - l._done) ≡ put_again (length l.initial.self.buffer.now) (filled l.initial.self) (40 * l.times))
