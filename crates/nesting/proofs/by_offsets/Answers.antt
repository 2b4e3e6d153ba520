-- `nesting::by_offsets` meets its contract: the root has no list before it. Assumes nothing.
use Prim.Native.Nat.{◌-◌}
use mathlib.Core.Path.{◌∙◌}
use native.Mathlib.Omega.{arith}
use Rattle.nesting.specs.Rows.{by_offsets}
use Rattle.nesting.proofs.Handed.{direct}
use Rattle.nesting.proofs.by_offsets.Goals as goal

pub returns-then-i-eq0 : goal.returns-then-i-eq0
unfolding by_offsets
returns-then-i-eq0 c = rw c.if-i-eq0.true

pub returns : goal.returns
returns c = c.listed.ensures ∙ direct _ (c.args.i - 1) c.args.i (omega (arith, c.if-i-eq0.false)) c.node_at.ensures c.node_at-2.ensures
