-- `runs::count_words` meets its contract: a word counts as many slots as it has set bits. Assumes nothing.
use Prim.Native.Nat.{◌*◌, ◌/◌, ◌%◌, ◌-◌, ◌≤◌}
use mathlib.Core.Path.{◌≡◌, refl}
use native.Mathlib.Omega.{arith}
use lib.Count.{ones}
use Rattle.format.specs.Slots.{picks_from}
use Rattle.runs.proofs.CountLaws.{ones-few, count-more}
use Rattle.runs.proofs.count_words.Goals as goal
use Rattle.runs.proofs.count_words.Goals.{After-window, After-window-2}

pub loop-w-init : goal.loop-w-init
unfolding picks_from
loop-w-init c = (omega arith, refl)

-- a word counts as many slots as it has, at most
most : (c : After-window) → ones c.window.result ≤ 64
most c = ones-few _ 64 _ _ c.window.ensures

most-last : (c : After-window-2) → ones c.window-2.result ≤ (c.args.hi - c.args.lo) % 64
most-last c = ones-few _ _ _ _ c.window-2.ensures

pub loop-w-preserved : goal.loop-w-preserved
loop-w-preserved c = (omega (arith, most c), count-more _ 64 _ _ c.window.ensures _ (64 * c.loop-w.w) _ _ refl (omega arith) c.loop-w.invariant.1)

pub returns : goal.returns
returns c =
    let e : c.loop-w.w ≡ (c.args.hi - c.args.lo) / 64 = omega arith in
    count-more _ _ _ _ c.window-2.ensures _ (64 * c.loop-w.w) _ _ (rw e) (omega arith) c.loop-w.invariant.1

pub overflow_cast-n : goal.overflow_cast-n
overflow_cast-n c = omega (arith, most c)

pub overflow_add-n : goal.overflow_add-n
overflow_add-n c = omega (arith, most c)

pub overflow_cast-result : goal.overflow_cast-result
overflow_cast-result c = omega (arith, most-last c)

pub overflow_add-result : goal.overflow_add-result
overflow_add-result c = omega (arith, most-last c)
