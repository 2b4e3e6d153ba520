-- What the loop of `walk_of` keeps: the open nodes before node i, and the places of the nodes before it. Assumes nothing.
use Rattle.std.proofs.Common.{◌≡◌, length}
use Rattle.format.specs.Node.{ancestors, parent, depth}
use Rattle.pack.specs.Tree.{Holds, parents_in, depths_in}
use Rattle.pack.proofs.tree.walk_of.Given as goal

abbrev pub invariant-loop-i : goal.invariant-loop-i
invariant-loop-i l =
    (length l.places ≡ 64) × (l.open ≡ ancestors l.pack l.i) × Holds (parent l.pack) l.i (parents_in l.places) × Holds (depth l.pack) l.i (depths_in l.places)
