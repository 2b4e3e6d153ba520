-- `list_from` meets its contract. Assumes nothing.
use native.Mathlib.Omega.{arith}
use Rattle.stretches.proofs.Places.{before-row}
use Rattle.stretches.proofs.parts.list_from.Goals as goal

pub returns : goal.returns
returns c = before-row c.args.list.at (omega arith) c.start.ensures (omega arith)
