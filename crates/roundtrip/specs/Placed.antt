-- What the writer puts at each node, and where: the names by which the laws of reading back speak of it. Assumes nothing.
use Rattle.std.specs.Prelude.{ℕ, ◌+◌, ◌^◌, ◌≤◌, ◌<◌, ◌≡◌, List, [], ◌∷◌, ◌++◌, length, get_or}
use Rattle.format.specs.Bytes.{bytes_at}
use Rattle.format.specs.Node.{no_bitmap}
use Rattle.format.specs.Verdict.{pack_limit}
use Rattle.format.specs.Kept.{Column, KeptNode}
use Rattle.format.specs.Write.{nulls, bitmap, first, second, data_length, with, place, written, write, no_column, no_node}

-- ys starts with xs
pub record Starts (xs ys : List ℕ) : Type 0 where
  pub rest : List ℕ
  pub is : ys ≡ xs ++ rest

-- the bytes x stand in b at a place, and end by `end`
pub record Lies (b : List ℕ) (end at : ℕ) (x : List ℕ) : Type 0 where
  pub bytes : bytes_at b at (length x) ≡ x
  pub inside : at + length x ≤ end

-- the body after a node's bitmap, and after its first buffer
abbrev pub after_bitmap : KeptNode → List ℕ → List ℕ
after_bitmap k body = with body (bitmap k.marks)

abbrev pub after_first : KeptNode → List ℕ → List ℕ
after_first k body = with (after_bitmap k body) (first k.values)

-- a node's ten fields, over the body before it
abbrev pub fields_of : Column → KeptNode → List ℕ → List ℕ
fields_of c k body =
    c.kind_is
    ∷ c.param_is
    ∷ length k.marks
    ∷ 0
    ∷ c.kids_are
    ∷ place no_bitmap body (bitmap k.marks)
    ∷ place 0 (after_bitmap k body) (first k.values)
    ∷ place 0 (after_first k body) (second k.values)
    ∷ data_length k.values
    ∷ nulls k.marks
    ∷ []

-- node i's column, its share of the kept part, and the body before it
abbrev pub column_at : List Column → ℕ → Column
column_at cs i = get_or cs i no_column

abbrev pub node_at : List KeptNode → ℕ → KeptNode
node_at ks i = get_or ks i no_node

abbrev pub body_at : List Column → List KeptNode → ℕ → List ℕ
body_at cs ks i = (written cs ks i).body

abbrev pub fields_at : List Column → List KeptNode → ℕ → List ℕ
fields_at cs ks i = fields_of (column_at cs i) (node_at ks i) (body_at cs ks i)

-- what is to be written fits a pack: its size, and each number its four bytes
pub record Fits (cs : List Column) (ks : List KeptNode) : Type 0 where
  pub size : length (write cs ks) ≤ pack_limit
  pub kinds : (i : ℕ) → i < length cs → (column_at cs i).kind_is < 256 ^ 4
  pub params : (i : ℕ) → i < length cs → (column_at cs i).param_is < 256 ^ 4
  pub kids : (i : ℕ) → i < length cs → (column_at cs i).kids_are < 256 ^ 4
  pub some : 0 < length cs
  pub rows : (i : ℕ) → i < length cs → length (node_at ks i).marks < 256 ^ 4
