-- `scan::ones_end` meets its contract: each word passed is of ones. Assumes nothing.
use Rattle.std.proofs.Common.{◌≡◌, arith}
use Rattle.format.proofs.SlotLaws.{all_none}
use Rattle.scan.proofs.Scan.{ones-on}
use Rattle.scan.proofs.ones_end.Goals as goal

pub loop-w-preserved : goal.loop-w-preserved
loop-w-preserved c = ones-on c.word_in.ensures (omega arith) c.loop-w.invariant (omega arith) (omega arith)

pub loop-w-init : goal.loop-w-init
loop-w-init c = record { low = omega arith; high = c.requires; all = all_none (omega arith) }

pub returns : goal.returns
returns c = let e : c.loop-w.w ≡ c.max-end.result = omega arith in rw e at c.loop-w.invariant
