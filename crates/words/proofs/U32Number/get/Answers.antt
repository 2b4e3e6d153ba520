-- `get` of a u32 meets its contract. Assumes nothing.
use Rattle.std.proofs.Common.{◌≡◌, ap, ◌∙◌, arith}
use Rattle.std.specs.Int.{from_le_bytes, w32}
use Rattle.format.specs.Bytes.{le}
use Rattle.format.proofs.Numbers.{read}
use Rattle.words.proofs.Bytes.{from_4}
use Rattle.words.proofs.U32Number.get.Goals as goal
use Rattle.words.proofs.U32Number.get.Goals.{After-from_le_bytes}

value : (c : After-from_le_bytes) → c.from_le_bytes.result ≡ le 4 c.args.s.now c.args.at
value c = c.from_le_bytes.ensures ∙ ap (from_le_bytes w32) c.array_at.ensures ∙ from_4 _ _

pub returns-clause-value : goal.returns-clause-value
returns-clause-value c = value c

pub returns-clause-bytes : goal.returns-clause-bytes
returns-clause-bytes c = (read 4 _ _ _ c.requires (λ i. omega (arith, c.type_inv.s i)) (value c)).1
