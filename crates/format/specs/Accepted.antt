-- What acceptance gives later code: the facts of an accepted pack, split by subject, each in the form in which code uses it.
-- No caller looks into the conditions of Verdict: it asks for `Sound` and takes what it needs by name. Assumes nothing.
use Rattle.std.specs.Prelude.{◌≡◌, ℕ, suc, ◌+◌, ◌-◌, ◌*◌, ◌^◌, ◌<◌, ◌≤◌, true, false, List, [], ◌∷◌, length, slice_index}
use Rattle.format.specs.declared.Kind.{Kind}
use Rattle.format.specs.declared.Kind.TheVariants.{Bits, Native, Bytes32, Bytes64, Views, Lists32, Lists64, Runs, Struct, Union, Dictionary, Nested32, Nested64, Unknown}
use Rattle.format.specs.Bytes.{bytes_for, le}
use Rattle.format.specs.Node.{table_start, node_count, root_rows, carries_counts, param, rows, skip, kids, validity_at, no_bitmap, first_at, second_at, second_length, last_field}
use Rattle.format.specs.Node.{kind, places, has_no_bitmap, valid, null_count, first_number, second_number, run_end, run_start, parent, depth, child, data_buffer}
use Rattle.format.specs.Verdict.{pack_limit, one_of, layout, first_size, second_size, view_field, view_data}

-- the kinds that have one child: list views, runs, dictionary, lists
pub data OneChild : Kind → Type 0 where
  lists32 : OneChild Lists32
  lists64 : OneChild Lists64
  runs : OneChild Runs
  dictionary : OneChild Dictionary
  nested32 : OneChild Nested32
  nested64 : OneChild Nested64

-- the kinds whose children have their parent's rows
pub data Shares : Kind → Type 0 where
  struct : Shares Struct
  union : Shares Union

-- the kinds that carry their children with all rows
pub data Carries : Kind → Type 0 where
  views : Carries Views
  lists32 : Carries Lists32
  lists64 : Carries Lists64
  dictionary : Carries Dictionary

-- the lists, with the width of their offsets
pub data Nests : ℕ → Kind → Type 0 where
  nested32 : Nests 4 Nested32
  nested64 : Nests 8 Nested64

-- what a node with children hands on: its own rows, its runs, all rows of the child, or the child rows of its valid rows
pub data Inner (k : Kind) : Type 0 where
  shared : Shares k → Inner k
  by_runs : k ≡ Runs → Inner k
  carried : Carries k → Inner k
  by_spans : (w : ℕ) → Nests w k → Inner k

-- data buffer k of views node i is the node i + 1 + k: native of width 1, with no bitmap
pub record DataBuffer (b : List ℕ) (i k : ℕ) : Type 0 where
  pub inside : data_buffer i k < node_count b
  pub under : parent b (data_buffer i k) ≡ i
  pub plain : kind b (data_buffer i k) ≡ Native
  pub width : param b (data_buffer i k) ≡ 1
  pub unmarked : validity_at b (data_buffer i k) ≡ no_bitmap

-- table and tree (1, 3, 5): how large they are, and where a node's parent and children stand
pub record Shape (b : List ℕ) : Type 0 where
  pub small : length b ≤ pack_limit
  pub some : 1 ≤ node_count b
  pub few : node_count b ≤ 64
  pub table : table_start b + 40 * node_count b + 16 ≡ length b
  pub shallow : (i : ℕ) → i < node_count b → depth b i ≤ 8
  pub above : (i : ℕ) → 0 < i → parent b i < i
  pub inner : (i : ℕ) → 0 < i → i < node_count b → Inner (kind b (parent b i))
  pub only : (i : ℕ) → 0 < i → i < node_count b → OneChild (kind b (parent b i)) → i ≡ child (parent b i)
  pub next : (i : ℕ) → i < node_count b → OneChild (kind b i) → child i < node_count b
  pub under : (i : ℕ) → i < node_count b → OneChild (kind b i) → parent b (child i) ≡ i
  pub buffers : (i k : ℕ) → i < node_count b → kind b i ≡ Views → k < kids b i → DataBuffer b i k

-- a node's fields (4): its kind is known, param and kids are of that kind, a bitmap stands only where one may
pub record Fields (b : List ℕ) (i : ℕ) : Type 0 where
  pub known : kind b i ≡ Unknown → ⊥
  pub params : (layout (kind b i)).params (param b i) ≡ true
  pub children : (layout (kind b i)).children (kids b i) ≡ true
  pub narrow : param b i ≤ 1024
  pub unmarked : (layout (kind b i)).bitmap ≡ false → validity_at b i ≡ no_bitmap

-- rows (6)
pub record RowsAgree (b : List ℕ) : Type 0 where
  pub limit : (i : ℕ) → i < node_count b → places b i ≤ 1_048_576
  pub root : root_rows b ≡ rows b 0
  pub same : (i : ℕ) → 0 < i → i < node_count b → Shares (kind b (parent b i)) → rows b i ≡ rows b (parent b i)

-- a node's buffers lie in the body (7)
pub record InBody (b : List ℕ) (i : ℕ) : Type 0 where
  pub bitmap : has_no_bitmap b i ≡ false → validity_at b i + bytes_for (places b i) ≤ table_start b
  pub first : first_at b i + first_size (kind b i) (param b i) (places b i) (rows b (child i)) ≤ table_start b
  pub second : second_at b i + second_size (kind b i) (places b i) (second_length b i) ≤ table_start b

-- offsets of w bytes (8; kinds 4 and 5): they never fall and stay within the data, which lies in the body
pub record Offsets (w : ℕ) (b : List ℕ) (i : ℕ) : Type 0 where
  pub rise : (r : ℕ) → r < rows b i → first_number w b i r ≤ first_number w b i (suc r)
  pub inside : (r : ℕ) → r ≤ rows b i → first_number w b i r ≤ second_length b i
  pub lie : first_at b i + w * suc (places b i) ≤ table_start b
  pub data_lies : second_at b i + second_length b i ≤ table_start b

-- offsets of w bytes of a list (8; kinds 13 and 14): they never fall and stay within the child's rows
pub record Spans (w : ℕ) (b : List ℕ) (i : ℕ) : Type 0 where
  pub rise : (r : ℕ) → r < rows b i → first_number w b i r ≤ first_number w b i (suc r)
  pub inside : (r : ℕ) → r ≤ rows b i → first_number w b i r ≤ rows b (child i)
  pub lie : first_at b i + w * suc (places b i) ≤ table_start b

-- views (8): above 12 bytes the range lies in the child that the view names and the prefix is true; up to 12 the unused bytes are zero
pub record ViewLies (b : List ℕ) (i r : ℕ) : Type 0 where
  pub short : view_field 0 b i r < 2 ^ 31
  pub names : 12 < view_field 0 b i r → view_field 2 b i r < kids b i
  pub inside : 12 < view_field 0 b i r → view_field 3 b i r + view_field 0 b i r ≤ rows b (data_buffer i (view_field 2 b i r))
  pub prefix : 12 < view_field 0 b i r → view_field 1 b i r ≡ le 4 b (view_data b i r)
  pub unused : (k : ℕ) → view_field 0 b i r ≤ k → k < 12 → slice_index b (first_at b i + 16 * (skip b i + r) + 4 + k) ≡ 0

-- run ends (8): param is their width; they rise, and the last covers skip + rows
pub record RunEnds (b : List ℕ) (i : ℕ) : Type 0 where
  pub width : one_of (2 ∷ 4 ∷ 8 ∷ []) (param b i) ≡ true
  pub rise : (j : ℕ) → j < rows b (child i) → run_start b i j < run_end b i j
  pub small : (j : ℕ) → j < rows b (child i) → run_end b i j < 2 ^ (8 * param b i - 1)
  pub cover : places b i ≤ run_start b i (rows b (child i))
  pub lie : first_at b i + param b i * rows b (child i) ≤ table_start b

-- a carried null count is true (20)
pub record CountsNulls (b : List ℕ) (i : ℕ) : Type 0 where
  pub carried : carries_counts b ≡ true → last_field b i ≡ null_count b i
  pub old : carries_counts b ≡ false → last_field b i ≡ 0

-- all that acceptance gives
pub record Sound (b : List ℕ) : Type 0 where
  pub shape : Shape b
  pub agree : RowsAgree b
  pub fields : (i : ℕ) → i < node_count b → Fields b i
  pub in_body : (i : ℕ) → i < node_count b → InBody b i
  pub nulls : (i : ℕ) → i < node_count b → CountsNulls b i
  pub offsets32 : (i : ℕ) → i < node_count b → kind b i ≡ Bytes32 → Offsets 4 b i
  pub offsets64 : (i : ℕ) → i < node_count b → kind b i ≡ Bytes64 → Offsets 8 b i
  pub views : (i r : ℕ) → i < node_count b → kind b i ≡ Views → r < rows b i → ViewLies b i r
  pub lists32 : (i r : ℕ) → i < node_count b → kind b i ≡ Lists32 → r < rows b i → first_number 4 b i r + second_number 4 b i r ≤ rows b (child i)
  pub lists64 : (i r : ℕ) → i < node_count b → kind b i ≡ Lists64 → r < rows b i → first_number 8 b i r + second_number 8 b i r ≤ rows b (child i)
  pub run_ends : (i : ℕ) → i < node_count b → kind b i ≡ Runs → RunEnds b i
  pub ids : (i r : ℕ) → i < node_count b → kind b i ≡ Union → r < rows b i → first_number 1 b i r < kids b i
  pub spans : (w i : ℕ) → i < node_count b → Nests w (kind b i) → Spans w b i
  pub keys : (i r : ℕ) → i < node_count b → kind b i ≡ Dictionary → r < rows b i → valid b i r ≡ true → first_number (param b i) b i r < rows b (child i)

-- and for a mask: its root is of kind bits, whose bits and bitmap lie in the body
pub record SoundMask (m : List ℕ) : Type 0 where
  pub sound : Sound m
  pub root : kind m 0 ≡ Bits
  pub limit : places m 0 ≤ 1_048_576
  pub bits : first_at m 0 + bytes_for (places m 0) ≤ table_start m
  pub bitmap : has_no_bitmap m 0 ≡ false → validity_at m 0 + bytes_for (places m 0) ≤ table_start m
