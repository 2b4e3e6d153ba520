-- One node more: its three buffers behind the body. Assumes nothing.
use Rattle.std.specs.Prelude.{ℕ, ◌-◌, List, ◌≡◌}
use Rattle.format.specs.declared.Kind.{Kind}
use Rattle.format.specs.declared.Kind.TheVariants.{Bytes32, Bytes64}
use Rattle.format.specs.Node.{no_bitmap}
use Rattle.format.specs.Put.{Wrote}
use Rattle.format.specs.Kept.{KeptNode}
use Rattle.format.specs.Write.{nulls, bitmap, first, second, data_length}
use Rattle.buffers.specs.Place.{ending, start_of}
use Rattle.nodes.specs.Body.{node_body}
use Rattle.node_body.specs.declared.Buffers.{Buffers}

-- the data bytes of a node of a kind, whose second buffer starts and ends at these places; 0 where the kind has no data
abbrev pub data_size : Kind → ℕ → ℕ → ℕ
data_size Bytes32 start next = next - start
data_size Bytes64 start next = next - start
data_size _ start next = 0

-- a node's buffers are put behind the place where the body ends: their bytes, their starts, the length of the data, and how many rows are null
pub record Added (k : KeptNode) (old : List ℕ) (at : ℕ) (new : List ℕ) (r : Buffers) : Type 0 where
  pub wrote : Wrote old at (node_body at k) new r.next
  pub bitmap_start : r.validity ≡ start_of no_bitmap at (bitmap k.marks)
  pub first_start : r.first ≡ start_of 0 (ending at (bitmap k.marks)) (first k.values)
  pub second_start : r.second ≡ start_of 0 (ending (ending at (bitmap k.marks)) (first k.values)) (second k.values)
  pub size : r.data ≡ data_length k.values
  pub counted : r.nulls ≡ nulls k.marks
