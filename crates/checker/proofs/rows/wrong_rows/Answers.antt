-- `checker::rows::wrong_rows` meets its contract: it asks each node, and each below the root with its parent. Assumes nothing.
use Rattle.std.proofs.Common.{ℕ, rules, arith, refl, ap, ◌∙◌, ◌-◌, ltb, get_or}
use Rattle.std.proofs.lemmas.Iterator.{YieldsList-from_range}
use Rattle.std.proofs.lemmas.Iterator.Search.{any_from_yields_List}
use Rattle.format.specs.Bytes.{any_below}
use Rattle.std.specs.List.{list_any, range_with_len}
use Rattle.format.specs.Node.{places}
use Rattle.format.specs.Verdict.{wrong_rows}
use Rattle.checker.proofs.Children.{other_rows, children-are}
use Rattle.pack.proofs.Ranges.{any-all}
use Rattle.checker.proofs.rows.wrong_rows.Goals as goal

pub returns : goal.returns
unfolding wrong_rows
returns c =
    let b = c.args.pack.now in
    let n = c.node_count-n.result in
    let p = c.parents_of-parents.result in
    let many = any_from_yields_List (λ i. ltb 1_048_576 (places b i)) _ _ _ c.any-many.ensures.ran (YieldsList-from_range 0 n n refl (omega arith)) (λ x r q k. search rules)
    ∙ any-all _ _ ∙ ap (any_below _) c.node_count-n.ensures in
    let other = any_from_yields_List (λ i. other_rows b i (get_or p i 0)) _ _ _ c.any-other.ensures.ran (YieldsList-from_range 1 n (n - 1) refl refl) (λ x r q k. search rules)
    ∙ ap (λ (m : ℕ). list_any (λ i. other_rows b i (get_or p i 0)) (range_with_len 1 (m - 1))) c.node_count-n.ensures ∙ children-are b p c.parents_of-parents.ensures in
    rw (many, other, c.trailer_of.ensures, c.node_at-root.ensures)
