-- There is room for a byte more, or there is none. Assumes nothing.
use Rattle.std.proofs.Common.{refl, length-set}
use Rattle.case_text.proofs.Putting.{put-more, put_full}
use Rattle.case_text.proofs.bytes.Bytes.put_byte.Goals as goal

pub returns-then-self-clause-bytes : goal.returns-then-self-clause-bytes
returns-then-self-clause-bytes c =
    let s = c.args.self.now in
    record { room = length-set s.buffer.now s.len c.args.x; bytes = (put-more s.buffer.now s.len c.args.x c.if-self.true).is }

pub returns-else-self-clause-bytes : goal.returns-else-self-clause-bytes
returns-else-self-clause-bytes c =
    let s = c.args.self.now in
    record { room = refl; bytes = (put_full s.buffer.now s.len c.args.x s.fits c.if-self.false).is }
