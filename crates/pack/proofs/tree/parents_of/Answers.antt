-- `pack::tree::parents_of` meets its contract: each parent is its place's. Assumes nothing.
use Rattle.std.proofs.Common.{rules, arith, ◌≡◌, ◌∙◌, get_or}
use Rattle.pack.proofs.Closed.{parent-at}
use Rattle.pack.proofs.tree.parents_of.Goals as goal

pub returns : goal.returns
returns c = record {
  at = λ i l.
      let h = c.map.ensures.items.at i (record { parent = 0; depth = 0 }) 0 (omega arith) in
      let e : get_or c.map.result i 0 ≡ (get_or c.walk_of.result.places i (record { parent = 0; depth = 0 })).parent = search rules in
      e ∙ parent-at _ _ c.walk_of.ensures i l;
}
