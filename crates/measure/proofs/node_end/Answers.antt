-- `measure::node_end` meets its contract: the three buffers, each by its measured length. Assumes nothing.
use mathlib.Core.Path.{sym, ap, ◌∙◌}
use native.Mathlib.Omega.{arith}
use Rattle.format.specs.Node.{kind}
use Rattle.measure.proofs.NodeEnd.{kept-few, param-few, node_end}
use Rattle.measure.proofs.node_end.Goals as goal

pub runs_kept-runs-requires : goal.runs_kept-runs-requires
unfolding kind
runs_kept-runs-requires c = record { known = c.requires.known; of_value = c.from-kind.ensures ∙ rw c.node-node.ensures }

pub bytes_for-requires : goal.bytes_for-requires
bytes_for-requires c = omega (arith, c.kept-kept.ensures, kept-few c.args.counted.ready c.requires.known.0)

pub grow-validity-requires : goal.grow-validity-requires
grow-validity-requires c = omega (arith, c.requires.at_value.0, c.bytes_for.ensures.1, c.kept-kept.ensures, kept-few c.args.counted.ready c.requires.known.0)

pub first_size-first-requires : goal.first_size-first-requires
first_size-first-requires c =
    let r = c.args.counted.ready in
    let h = c.requires.known.0 in
    (rw c.node-node.ensures (param-few r h), omega (arith, c.kept-kept.ensures, kept-few r h), c.runs_kept-runs.ensures.few)

pub second_size-second-requires : goal.second_size-second-requires
second_size-second-requires c =
    let r = c.args.counted.ready in
    (omega (arith, c.kept-kept.ensures, kept-few r c.requires.known.0), omega (arith, c.data_length-data.ensures.1, r.sound.shape.small))

pub grow-requires : goal.grow-requires
grow-requires c = omega (arith, c.grow-validity.ensures.1, c.requires.at_value.0, c.bytes_for.ensures.1, c.kept-kept.ensures, kept-few c.args.counted.ready c.requires.known.0, c.first_size-first.ensures.1)

pub grow-requires-2 : goal.grow-requires-2
grow-requires-2 c = omega (arith, c.grow.ensures.1, c.grow-validity.ensures.1, c.requires.at_value.0, c.bytes_for.ensures.1, c.kept-kept.ensures, kept-few c.args.counted.ready c.requires.known.0, c.first_size-first.ensures.1, c.second_size-second.ensures.1)

pub returns : goal.returns
unfolding kind
returns c =
    let r = c.args.counted.ready in
    let h = c.requires.known.0 in (
      c.grow-2.ensures.0
          ∙ rw (c.has_second.ensures, c.second_size-second.ensures.0, c.grow.ensures.0, c.has_first.ensures, c.first_size-first.ensures.0, c.grow-validity.ensures.0, c.any_null.ensures, c.bytes_for.ensures.0, c.from-kind.ensures, c.node-node.ensures)
          (node_end r h c.kept-kept.ensures c.runs_kept-runs.ensures.kept c.data_length-data.ensures.0 c.args.at c.requires.at_value.1),
      omega (arith, c.grow-2.ensures.1, c.second_size-second.ensures.1, c.grow.ensures.1, c.first_size-first.ensures.1, c.grow-validity.ensures.1, c.bytes_for.ensures.1, c.kept-kept.ensures, kept-few r h),
    )
