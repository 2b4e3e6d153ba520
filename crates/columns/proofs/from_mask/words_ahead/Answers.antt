-- `columns::from_mask::words_ahead` meets its contract: a turn adds the next word. Assumes nothing.
use mathlib.Core.Path.{◌≡◌, refl}
use native.Mathlib.Omega.{arith}
use lib.ListN.{length-set}
use Rattle.columns.proofs.Passing.{ahead_none, ahead_more}
use Rattle.columns.proofs.from_mask.words_ahead.Goals as goal

pub loop-n-init : goal.loop-n-init
loop-n-init c = (refl, ahead_none _ _ _ _ c.requires)

pub loop-n-preserved : goal.loop-n-preserved
loop-n-preserved c =
    let i = c.loop-n.invariant in
    (rw length-set i.0, ahead_more i.1 (omega arith) (omega arith) c.word_in-x.ensures refl)

pub returns : goal.returns
returns c = let e : c.loop-n.n ≡ c.min-most.result = omega arith in rw e at c.loop-n.invariant.1
