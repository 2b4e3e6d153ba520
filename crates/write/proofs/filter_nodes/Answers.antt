-- `write::filter_nodes` meets its contract. The loop's invariant: the first i nodes are written. Assumes nothing.
use Prim.Native.Nat.{◌<◌}
use mathlib.Core.Path.{◌≡◌, refl, sym, ◌∙◌}
use native.Mathlib.Numerals.{add-one}
use native.Mathlib.Omega.{arith}
use Rattle.format.specs.Node.{node_count}
use Rattle.format.proofs.Put.{same_size}
use Rattle.write.proofs.NodeLaws.{nodes-none, node-room, nodes-more}
use Rattle.write.proofs.filter_nodes.Goals as goal

pub loop-i-init : goal.loop-i-init
loop-i-init c = nodes-none refl c.requires.0

pub filter_node-at-requires : goal.filter_node-at-requires
filter_node-at-requires c =
    let done = c.loop-i.invariant in
    let q = c.requires in
    let inside : c.loop-i.i < node_count c.args.regions.now.counted.journal.now.bytes.now = omega (arith, c.node_count-i-end.ensures, c.loop-i-test.true) in
    record { i_bound = (inside, done.size, omega (arith, q.1, same_size done.body)); room = node-room done inside (omega (arith, q.2, same_size done.body)) }

pub loop-i-preserved : goal.loop-i-preserved
loop-i-preserved c =
    let inside : c.loop-i.i < node_count c.args.regions.now.counted.journal.now.bytes.now = omega (arith, c.node_count-i-end.ensures, c.loop-i-test.true) in
    rw (add-one c.loop-i.i) (nodes-more c.loop-i.invariant inside c.args.regions.now.counted.ready.sound.shape.few c.filter_node-at.ensures)

pub shape_of-out : goal.shape_of-out
shape_of-out c = same_size c.loop-i.invariant.body

pub shape_of-fields : goal.shape_of-fields
shape_of-fields c = c.loop-i.invariant.size ∙ sym c.requires.0

pub returns : goal.returns
returns c = let all : c.loop-i.i ≡ node_count c.args.regions.now.counted.journal.now.bytes.now = omega (arith, c.node_count-i-end.ensures, c.loop-i.auto.i-end, c.loop-i-test.false) in rw (← all) c.loop-i.invariant
