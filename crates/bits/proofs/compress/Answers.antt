-- `bits::compress` meets its contract. The invariant: the bits of the bytes passed, from the highest, are gathered. Assumes nothing.
use Prim.Native.Nat.{◌+◌, ◌-◌, ◌*◌}
use mathlib.Core.Path.{refl}
use native.Mathlib.Omega.{arith}
use Rattle.bits.proofs.FourLaws.{Gathered, begun, room, turn, done, place-high, place-low}
use Rattle.bits.proofs.compress.Goals as goal
use Rattle.bits.proofs.compress.Goals.{After-add_four-out}

pub loop-byte-init : goal.loop-byte-init
loop-byte-init c = begun _ _

pub add_four-out-requires : goal.add_four-out-requires
add_four-out-requires c = (room c.loop-byte.invariant (omega arith), omega arith)

-- a byte's high fours are gathered
half : (c : After-add_four-out) → Gathered c.args.value c.args.mask (8 * (c.loop-byte.byte - 1) + 4) c.add_four-out.result
half c =
    let i = c.loop-byte.byte - 1 in
    turn c.loop-byte.invariant (8 * i + 4) _ _ (omega arith) (place-high _ _ i (omega arith)) c.add_four-out.ensures

pub add_four-out-requires-in-loop-byte : goal.add_four-out-requires-in-loop-byte
add_four-out-requires-in-loop-byte c = (room (half c) (omega arith), omega arith)

-- and its low ones
pub loop-byte-preserved : goal.loop-byte-preserved
loop-byte-preserved c =
    let i = c.loop-byte.byte - 1 in
    turn (half (goal.at.loop-byte-preserved c).After-add_four-out) (8 * i) _ _ refl (place-low _ _ i (omega arith)) c.add_four-out-in-loop-byte.ensures

pub returns : goal.returns
returns c = done c.loop-byte.invariant (omega arith)
