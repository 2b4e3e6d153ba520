-- `get` of a u8 meets its contract. Assumes nothing.
use Rattle.std.proofs.Common.{add-zero, arith}
use Rattle.format.specs.Bytes.{le, sum_below}
use Rattle.format.proofs.Numbers.{read}
use Rattle.words.proofs.U8Number.get.Goals as goal

pub returns-clause-value : goal.returns-clause-value
unfolding le sum_below
returns-clause-value c = simp add-zero (omega arith)

pub returns-clause-bytes : goal.returns-clause-bytes
returns-clause-bytes c = (read 1 _ _ _ c.requires (λ i. omega (arith, c.type_inv.s i)) (returns-clause-value c)).1
