-- One node more: its buffers behind the body, and its ten fields behind the fields of the nodes before it. Assumes nothing.
use Rattle.std.specs.Prelude.{ℕ, ◌*◌, ◌^◌, ◌<◌, List, [], ◌∷◌, ◌≡◌}
use Rattle.format.specs.Node.{kind_number, param, kids}
use Rattle.format.specs.Put.{put, Wrote}
use Rattle.format.specs.Kept.{Column, KeptNode}
use Rattle.nodes.specs.Body.{node_body, node_fields}
use Rattle.node_body.specs.declared.Buffers.{Buffers}
use Rattle.pack.specs.declared.Node.{Node}

-- what the table says of node i's column
abbrev pub column_of : List ℕ → ℕ → Column
column_of b i = record { kind_is = kind_number b i; param_is = param b i; kids_are = kids b i }

-- the ten fields of a node, in order
abbrev pub fields_of : Node → List ℕ
fields_of n = n.kind ∷ n.param ∷ n.rows ∷ n.skip ∷ n.kids ∷ n.validity_at ∷ n.first_at ∷ n.second_at ∷ n.second_length ∷ n.last_field ∷ []

-- a node of which `kept` rows are kept, and whose buffers were put
abbrev pub put_at : Node → ℕ → Buffers → Node
put_at own kept b =
    record {
      kind = own.kind;
      param = own.param;
      rows = kept;
      skip = 0;
      kids = own.kids;
      validity_at = b.validity;
      first_at = b.first;
      second_at = b.second;
      second_length = b.data;
      last_field = b.nulls;
    }

-- these numbers fit in fields
pub record Small (kept : ℕ) (b : Buffers) : Type 0 where
  pub few : kept < 2 ^ 32
  pub validity : b.validity < 2 ^ 32
  pub first : b.first < 2 ^ 32
  pub second : b.second < 2 ^ 32
  pub long : b.data < 2 ^ 32
  pub nulls : b.nulls < 2 ^ 32

-- node i is written: its buffers in the output, and its fields at 10 i
pub record Written (c : Column) (k : KeptNode) (i : ℕ) (old : List ℕ) (at : ℕ) (new : List ℕ) (next : ℕ) (fields after : List ℕ) : Type 0 where
  pub body : Wrote old at (node_body at k) new next
  pub nodes : after ≡ put fields (10 * i) (node_fields at c k)
