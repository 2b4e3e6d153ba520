-- What the loop of `filter_bits_compress` keeps, and its measure. Assumes nothing.
use Prim.Native.Nat.{◌+◌, ◌-◌, ◌*◌, ◌≤◌}
use mathlib.Core.Path.{◌≡◌}
use Rattle.bitmaps.specs.Push.{Packs}
use Rattle.bitmaps.proofs.WordWalk.{taken}
use Rattle.bitmaps.proofs.filter_bits_compress.Given as goal

abbrev pub invariant-loop-w : goal.invariant-loop-w
invariant-loop-w l = record {
  inside : 64 * l.w ≤ l.len + 63;
  packs : Packs (taken l.values l.from l.source (64 * l.w)) l.fn.out l.at l.to;
  same_reference : l.to.out.ghost_name ≡ l.initial.to.out.ghost_name;
}

abbrev pub decreases-loop-w : goal.decreases-loop-w
decreases-loop-w l = l.len + 64 - 64 * l.w
