-- `pack::tree::wrong_tree` meets its contract: the walk's places give each part. Assumes nothing.
use Rattle.std.proofs.Common.{rules, arith, refl, ◌-◌, get_or, eqb, ltb, not, ◌&&◌}
use Rattle.std.proofs.lemmas.Iterator.{YieldsList-from_range}
use Rattle.std.proofs.lemmas.Iterator.Search.{any_from_yields_List}
use Rattle.format.specs.Node.{param, of_kind, has_no_bitmap}
use Rattle.pack.proofs.Closed.{tree_is}
use Rattle.pack.proofs.tree.wrong_tree.Goals as goal

pub returns : goal.returns
returns c =
    let b = c.args.pack.now in
    let n = c.node_count-n.result in
    let places = c.walk_of-walk.result.places in
    tree_is b c.walk_of-walk.result c.walk_of-walk.ensures n c.node_count-n.ensures
    (any_from_yields_List (λ i. eqb (get_or places i (record { parent = 0; depth = 0 })).depth 1) _ _ _ c.any-early.ensures.ran (YieldsList-from_range 1 n (n - 1) refl refl) (λ x r q k. search rules))
    (any_from_yields_List (λ i. ltb 8 (get_or places i (record { parent = 0; depth = 0 })).depth) _ _ _ c.any-deep.ensures.ran (YieldsList-from_range 0 n n refl (omega arith)) (λ x r q k. search rules))
    (any_from_yields_List (λ i. of_kind 6 b (get_or places i (record { parent = 0; depth = 0 })).parent && not (of_kind 2 b i && eqb (param b i) 1 && has_no_bitmap b i)) _ _ _ c.any-buffer.ensures.ran (YieldsList-from_range 1 n (n - 1) refl refl) (λ x r q k. search rules))
