-- `checker::nulls::wrong_nulls` meets its contract: it asks each node in turn, where the pack carries counts. Assumes nothing.
use Rattle.std.proofs.Common.{rules, arith, refl, ap, ◌∙◌, eqb, not}
use Rattle.std.proofs.lemmas.Iterator.{YieldsList-from_range}
use Rattle.std.proofs.lemmas.Iterator.Search.{any_from_yields_List}
use Rattle.format.specs.Bytes.{any_below}
use Rattle.format.specs.Node.{last_field, null_count}
use Rattle.format.specs.Verdict.{wrong_nulls}
use Rattle.pack.proofs.Ranges.{any-all}
use Rattle.checker.proofs.nulls.wrong_nulls.Goals as goal

pub returns-then-carries_counts : goal.returns-then-carries_counts
unfolding wrong_nulls
returns-then-carries_counts c =
    let b = c.args.pack.now in
    let n = c.node_count.result in
    let all = any_from_yields_List (λ i. not (eqb (last_field b i) (null_count b i))) _ _ _ c.any.ensures.ran (YieldsList-from_range 0 n n refl (omega arith)) (λ x r q k. search rules) in
    rw (← c.carries_counts.ensures, c.if-carries_counts.true) (all ∙ any-all _ _ ∙ ap (any_below _) c.node_count.ensures)

pub returns-else-carries_counts : goal.returns-else-carries_counts
unfolding wrong_nulls
returns-else-carries_counts c = rw (← c.carries_counts.ensures, c.if-carries_counts.false)
