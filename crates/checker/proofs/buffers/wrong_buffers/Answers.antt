-- `checker::buffers::wrong_buffers` meets its contract: it asks each node in turn. Assumes nothing.
use Rattle.std.proofs.Common.{rules, arith, refl, ap, ◌∙◌}
use Rattle.std.proofs.lemmas.Iterator.{YieldsList-from_range}
use Rattle.std.proofs.lemmas.Iterator.Search.{any_from_yields_List}
use Rattle.format.specs.Bytes.{any_below}
use Rattle.format.specs.Verdict.{bad_buffers, wrong_buffers}
use Rattle.pack.proofs.Ranges.{any-all}
use Rattle.checker.proofs.buffers.wrong_buffers.Goals as goal

pub returns : goal.returns
unfolding wrong_buffers
returns c =
    let b = c.args.pack.now in
    let n = c.node_count.result in
    any_from_yields_List (λ i. bad_buffers b i) _ _ _ c.any.ensures.ran (YieldsList-from_range 0 n n refl (omega arith)) (λ x r q k. search rules)
    ∙ any-all _ _ ∙ ap (any_below _) c.node_count.ensures
