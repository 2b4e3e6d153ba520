-- What the walk over the nodes hands out: parents and depths in arrays. Assumes nothing.
use Rattle.std.specs.Prelude.{ℕ, zero, suc, ◌<◌, List, [], ◌∷◌, map, ◌≡◌, length, slice_index_or, get_or}
use Rattle.format.specs.Node.{node_count, Ancestor, ancestor, ancestors, parent, depth}
use Rattle.pack.specs.declared.Walk.{Walk}
use Rattle.pack.specs.declared.Place.{Place}
use Rattle.pack.specs.declared.open_nodes.OpenNode.{OpenNode}

-- an array that holds f of each number below n
pub record Holds (f : ℕ → ℕ) (n : ℕ) (xs : List ℕ) : Type 0 where
  pub at : (i : ℕ) → i < n → get_or xs i 0 ≡ f i

-- each node's parent; each node's depth
abbrev pub Parents : List ℕ → List ℕ → Type 0
Parents b = Holds (parent b) (node_count b)

abbrev pub Depths : List ℕ → List ℕ → Type 0
Depths b = Holds (depth b) (node_count b)

-- the parents and the depths of places
abbrev pub parents_in : List Place → List ℕ
parents_in = map (λ p. p.parent)

abbrev pub depths_in : List Place → List ℕ
depths_in = map (λ p. p.depth)

-- the whole walk, and how many nodes are still open after the last
pub record Walked (b : List ℕ) (w : Walk) : Type 0 where
  pub above : Parents b (parents_in w.places)
  pub deep : Depths b (depths_in w.places)
  pub rest : w.unclosed ≡ length (ancestors b (node_count b))

-- the first d nodes of an array as the open ones, innermost first
abbrev pub no_node : OpenNode
no_node = record { node = 0; left = 0 }

unfoldable pub ancestors_in : ℕ → List OpenNode → List Ancestor
ancestors_in zero xs = []
ancestors_in (suc d) xs = let x = slice_index_or xs d no_node in ancestor x.node x.left ∷ ancestors_in d xs
