-- What the loop of `Levels::follow` keeps: r is left to be followed down the k innermost levels. Assumes nothing.
use mathlib.Core.Path.{◌≡◌}
use Rattle.list_counts.specs.Chains.{followed, Reaches}
use Rattle.list_counts.proofs.chain.Levels.follow.Given as goal

abbrev pub invariant-loop-k : goal.invariant-loop-k
invariant-loop-k l =
    let b = l.self.bytes.now in
    let xs = l.self.offsets in
    Reaches b xs l.k l.r × (followed b xs l.k l.r ≡ followed b xs l.self.depth l.row)
