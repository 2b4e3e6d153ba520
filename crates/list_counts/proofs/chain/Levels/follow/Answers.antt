-- `Levels::follow` meets its contract. Assumes nothing.
use Prim.Native.Nat.{◌-◌}
use mathlib.Core.Path.{refl, sym, ◌∙◌}
use native.Mathlib.Omega.{arith}
use Rattle.list_counts.proofs.Climbing.{served, followed-none}
use Rattle.list_counts.proofs.chain.Levels.follow.Goals as goal

pub loop-k-init : goal.loop-k-init
loop-k-init c = (c.requires, refl)

pub get-r-requires : goal.get-r-requires
get-r-requires c = let s = served {k = c.loop-k.k - 1} c.loop-k.invariant.0 (omega arith) in record { wide = s.wide; inside = s.lies }

pub loop-k-preserved : goal.loop-k-preserved
loop-k-preserved c =
    let (reaches, same) = (served {k = c.loop-k.k - 1} c.loop-k.invariant.0 (omega arith)).next c.get-r.ensures in
    (reaches, same ∙ c.loop-k.invariant.1)

pub returns : goal.returns
returns c = sym (followed-none _ _ (omega arith)) ∙ c.loop-k.invariant.1
