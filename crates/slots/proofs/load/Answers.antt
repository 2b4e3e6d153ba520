-- `slots::load` meets its contract: a turn puts byte j + t - 1 below the bytes from j + t on. Assumes nothing.
use Prim.Native.Nat.{◌+◌, ◌*◌, ◌^◌, ◌≤◌, ◌<◌, ◌-◌}
use mathlib.Core.Path.{◌≡◌, refl, ◌∙◌}
use native.Mathlib.Nat.{add-zero, lt_of_lt_of_le}
use native.Mathlib.Omega.{arith}
use lib.ListN.{get_or}
use lib.Pow.{pow_mono}
use Rattle.format.specs.Words.{word_of}
use Rattle.format.specs.Slots.{slots_from, word_from}
use Rattle.format.proofs.WordLaws.{from-lt, byte-below}
use Rattle.slots.proofs.load.Goals as goal
use Rattle.slots.proofs.load.Goals.{In-loop-t}

-- at most seven bytes were read
small : (c : In-loop-t) → c.loop-t.x < 2 ^ 56
small c =
    let h : 8 * (8 - c.loop-t.t) ≤ 56 = omega arith in
    rw c.loop-t.invariant (lt_of_lt_of_le (from-lt _ _ _) (pow_mono h))

pub loop-t-init : goal.loop-t-init
unfolding word_from slots_from word_of
loop-t-init c = refl

pub loop-t-preserved : goal.loop-t-preserved
loop-t-preserved c =
    let a = c.args in
    let t = c.loop-t.t in
    let n : 8 * (8 - (t - 1)) ≡ 8 + 8 * (8 - t) = omega arith in
    let k : 8 * (a.j + (t - 1)) + 8 ≡ 8 * (a.j + t) = omega arith in
    let h : get_or a.s.now (a.j + (t - 1)) 0 < 256 = omega arith in
    let e : c.from.result ≡ get_or a.s.now (a.j + (t - 1)) 0 = c.from.ensures ∙ c.byte.ensures in
    rw (n, byte-below, k, e, c.loop-t.invariant)

pub returns : goal.returns
returns c =
    let t : c.loop-t.t ≡ 0 = omega arith in
    rw (t, add-zero) at c.loop-t.invariant

pub overflow_mul-x : goal.overflow_mul-x
overflow_mul-x c = omega (arith, small (goal.at.overflow_mul-x c).In-loop-t)

pub overflow_add-x : goal.overflow_add-x
overflow_add-x c = omega (arith, small (goal.at.overflow_add-x c).In-loop-t)
