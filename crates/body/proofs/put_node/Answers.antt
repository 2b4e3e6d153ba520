-- `body::put_node` meets its contract: ten numbers in the place of ten. Assumes nothing.
use Prim.Native.Nat.{◌*◌}
use native.Mathlib.Omega.{arith}
use Rattle.body.proofs.Fields.{ten-put}
use Rattle.body.proofs.put_node.Goals as goal

pub returns : goal.returns
returns c = ten-put _ (10 * c.args.i) _ c.copy_from_slice.ensures.after (omega arith) (omega (arith, c.requires))
