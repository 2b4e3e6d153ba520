-- What a node adds to the body and to the table, from the place where the body ends (docs/FORMAT.md, 8). Assumes nothing.
use Rattle.std.specs.Prelude.{ℕ, List, [], ◌∷◌, ◌++◌, length}
use Rattle.format.specs.Node.{no_bitmap}
use Rattle.format.specs.Kept.{Column, KeptNode}
use Rattle.format.specs.Write.{nulls, bitmap, first, second, data_length}
use Rattle.buffers.specs.Place.{appended, ending, start_of}

-- what a node's bitmap, first and second buffers add, in this order
unfoldable pub node_body : ℕ → KeptNode → List ℕ
node_body at k =
    let m = bitmap k.marks in
    let f = first k.values in
    let s = second k.values in
    appended at m ++ (appended (ending at m) f ++ appended (ending (ending at m) f) s)

-- its ten fields
unfoldable pub node_fields : ℕ → Column → KeptNode → List ℕ
node_fields at c k =
    let m = bitmap k.marks in
    let f = first k.values in
    let s = second k.values in
    c.kind_is
    ∷ c.param_is
    ∷ length k.marks
    ∷ 0
    ∷ c.kids_are
    ∷ start_of no_bitmap at m
    ∷ start_of 0 (ending at m) f
    ∷ start_of 0 (ending (ending at m) f) s
    ∷ data_length k.values
    ∷ nulls k.marks
    ∷ []
