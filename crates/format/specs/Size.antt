-- How long a written pack is, from the sizes of its nodes' buffers alone (docs/FORMAT.md, 8: each start, and the table's, raised to a multiple of 8). Assumes nothing.
use Rattle.std.specs.Prelude.{ℕ, zero, suc, ◌+◌, ◌*◌, Bool, true, false, cond, List, length, slice_index_or}
use Rattle.format.specs.Bytes.{raised}
use Rattle.format.specs.Kept.{KeptNode}
use Rattle.format.specs.Write.{Buffer, absent, holds, bitmap, first, second, no_node}

-- a buffer's size: whether it is there, and its bytes
pub record BufferSize : Type 0 where
  pub here : Bool
  pub bytes : ℕ

-- a node's: bitmap, first, second
pub record NodeSize : Type 0 where
  pub marks : BufferSize
  pub firsts : BufferSize
  pub seconds : BufferSize

-- the body's length after a buffer of n bytes, if it is there: its start is raised to a multiple of 8
unfoldable pub grown_if : ℕ → Bool → ℕ → ℕ
grown_if at here n = cond here (raised at + n) at

abbrev pub grown_by : ℕ → BufferSize → ℕ
grown_by at s = grown_if at s.here s.bytes

-- after a node's three
abbrev pub grown_node : ℕ → NodeSize → ℕ
grown_node at z = grown_by (grown_by (grown_by at z.marks) z.firsts) z.seconds

-- the body's length after the first n nodes, whose sizes are told by their numbers
unfoldable pub body_size : (ℕ → NodeSize) → ℕ → ℕ
body_size sizes zero = 0
body_size sizes (suc n) = grown_node (body_size sizes n) (sizes n)

-- the pack's: the body raised, 40 bytes of table for each node, 16 of trailer
unfoldable pub pack_size : (ℕ → NodeSize) → ℕ → ℕ
pack_size sizes n = raised (body_size sizes n) + 40 * n + 16

-- the sizes of what a kept node has
unfoldable pub buffer_size : Buffer → BufferSize
buffer_size absent = record { here = false; bytes = 0 }
buffer_size (holds x) = record { here = true; bytes = length x }

unfoldable pub node_size : KeptNode → NodeSize
node_size k = record { marks = buffer_size (bitmap k.marks); firsts = buffer_size (first k.values); seconds = buffer_size (second k.values) }

abbrev pub node_size_at : List KeptNode → ℕ → NodeSize
node_size_at ks i = node_size (slice_index_or ks i no_node)
