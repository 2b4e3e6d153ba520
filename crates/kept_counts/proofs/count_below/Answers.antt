-- `count_below` meets its contract. Assumes nothing.
use Rattle.std.proofs.Common.{arith}
use Rattle.nesting.proofs.Counting.{ready_at, above-lt}
use Rattle.list_counts.proofs.Chained.{starts-count}
use Rattle.stretches.proofs.Here.{list-after}
use Rattle.kept_counts.proofs.count_below.Goals as goal

pub count_picked-requires-clause-descends : goal.count_picked-requires-clause-descends
count_picked-requires-clause-descends c = let k = c.levels_above.ensures _ c.in-Some.is in rw k.here k.down

pub count_picked-requires-clause-sifted : goal.count_picked-requires-clause-sifted
count_picked-requires-clause-sifted c = let k = c.levels_above.ensures _ c.in-Some.is in rw k.here c.args.counted.ready.rooted

pub returns-in-Some : goal.returns-in-Some
returns-in-Some c = let k = c.levels_above.ensures _ c.in-Some.is in starts-count k.starts c.args.counted.ready.rooted (rw k.here at c.count_picked.ensures)

pub count_listed-requires : goal.count_listed-requires
count_listed-requires c =
    let k = c.bare_list.ensures _ c.in-Some-bare_list.is in
    let low = above-lt (ready_at c.args.counted.ready c.requires.known) c.requires.inside.1 c.requires.inside.0 in
    record { here = k.here; known = omega (arith, low, k.is, c.parent.ensures, c.requires.known); bare = rw k.is k.bare }

pub returns-in-Some-bare_list : goal.returns-in-Some-bare_list
returns-in-Some-bare_list c =
    let k = c.bare_list.ensures _ c.in-Some-bare_list.is in
    let next = list-after c.args.counted c.in-Some-bare_list.list k.here c.requires.inside.1 c.requires.inside.0 c.parent.ensures k.is in
    rw next c.count_listed.ensures
