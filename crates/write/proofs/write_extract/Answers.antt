-- `write::write_extract` meets its contract: the body, padding, the table and the trailer. Assumes nothing.
use mathlib.Core.Path.{refl, sym}
use native.Mathlib.Omega.{arith}
use lib.ListN.{length-take}
use lib.Seq.{length-take-le}
use Rattle.format.proofs.Measure.{length-numbers}
use Rattle.measure.proofs.NodeEnd.{kept-few}
use Rattle.write.proofs.WholeLaws.{pad-fits, start_fits, table_fits, trailer-fits, whole}
use Rattle.write.proofs.write_extract.Goals as goal

pub filter_nodes-end-requires : goal.filter_nodes-end-requires
filter_nodes-end-requires c = (refl, c.requires.0, omega (arith, c.requires.1))

pub pad-start-requires : goal.pad-start-requires
pad-start-requires c = pad-fits c.filter_nodes-end.ensures c.requires.1

pub slice_bounds-fields-end : goal.slice_bounds-fields-end
slice_bounds-fields-end c = omega (arith, c.filter_nodes-end.ensures.size, c.node_count-n.ensures, c.args.regions.now.counted.ready.sound.shape.few)

pub slice_bounds-put_fields-end : goal.slice_bounds-put_fields-end
slice_bounds-put_fields-end c = sym (length-take-le _ _ (omega (arith, c.filter_nodes-end.ensures.size, c.node_count-n.ensures, c.args.regions.now.counted.ready.sound.shape.few)))

pub put_fields-after-requires : goal.put_fields-after-requires
put_fields-after-requires c =
    let fits = table_fits c.filter_nodes-end.ensures c.requires.1 c.pad-start.ensures in
    simp (length-numbers, length-take) (omega (arith, fits, c.node_count-n.ensures))

pub kept-requires : goal.kept-requires
kept-requires c =
    let s = c.args.regions.now.counted.ready.sound.shape.some in
    (omega (arith, s, c.args.regions.now.known), s)

pub overflow_cast-start : goal.overflow_cast-start
overflow_cast-start c = omega (arith, start_fits c.filter_nodes-end.ensures c.requires.1 c.pad-start.ensures, c.requires.0)

pub overflow_cast-n : goal.overflow_cast-n
overflow_cast-n c = omega (arith, c.node_count-n.ensures, c.args.regions.now.counted.ready.sound.shape.few)

pub overflow_cast-kept : goal.overflow_cast-kept
overflow_cast-kept c = let r = c.args.regions.now.counted.ready in omega (arith, c.kept.ensures, kept-few r r.sound.shape.some)

pub put_trailer-requires : goal.put_trailer-requires
put_trailer-requires c = trailer-fits c.filter_nodes-end.ensures c.requires.1 c.pad-start.ensures c.put_fields-after.ensures (simp (length-numbers, length-take) (omega (arith, c.node_count-n.ensures)))

pub returns : goal.returns
returns c =
    let count = c.node_count-n.ensures in
    whole c.filter_nodes-end.ensures c.requires.1 c.pad-start.ensures c.args.regions.now.counted.ready.sound.shape.some count c.kept.ensures
    c.put_fields-after.ensures (rw count) c.put_trailer.ensures
