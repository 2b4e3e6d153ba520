-- `slots::Source::count` meets its contract. Assumes nothing.
use Prim.Native.Nat.{◌*◌, ◌≤◌}
use mathlib.Core.Path.{refl}
use native.Mathlib.Omega.{arith}
use lib.Count.{ones}
use Rattle.slots.proofs.Reading.{slots-picks}
use Rattle.slots.proofs.Counting.{counted, counted-more, most}
use Rattle.slots.proofs.Source.count.Goals as goal
use Rattle.slots.proofs.Source.count.Goals.{After-word}

few : (c : After-word) → ones c.word.result ≤ 64
few c = most _ _ _ c.word.ensures

pub loop-w-init : goal.loop-w-init
loop-w-init c = counted _ _ _ c.count_words-n.ensures

pub loop-w-preserved : goal.loop-w-preserved
loop-w-preserved c = counted-more _ _ _ _ _ c.loop-w.invariant c.word.ensures refl

pub returns : goal.returns
returns c =
    let s = c.args.self in
    rw (← slots-picks s.bytes.now s.bits (64 * c.loop-w.w) (omega arith)) c.loop-w.invariant.count

pub overflow_cast-n : goal.overflow_cast-n
overflow_cast-n c = omega (arith, few c)

pub overflow_add-n : goal.overflow_add-n
overflow_add-n c = let s = c.args.self.lies in omega (arith, few c)
