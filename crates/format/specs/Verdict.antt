-- When a pack is refused: conditions 1 to 8, then 20, and 9 for a mask (docs/FORMAT.md, 5 and 11). Each condition speaks of all nodes. Assumes nothing.
use Rattle.std.specs.Prelude.{ℕ, suc, ◌+◌, ◌*◌, Bool, true, false, cond, not, ◌&&◌, ◌||◌, ltb, leb, List, [], ◌∷◌, ◌++◌, length, ◌==◌, nat_le, nat_lt, slice_index}
use Rattle.format.specs.declared.Kind.{Kind}
use Rattle.format.specs.declared.Kind.TheVariants.{Bits, Native, Fixed, Bytes32, Bytes64, Views, Lists32, Lists64, Runs, Struct, Union, Dictionary, Nested32, Nested64, Unknown}
use Rattle.format.specs.Bytes.{le, any_below, negative, bytes_for}
use Rattle.format.specs.Node.{table_start, node_count, root_rows, mark_of, mark, old_mark, carries_counts, param, rows, skip, kids, validity_at, first_at, second_at}
use Rattle.format.specs.Node.{second_length, last_field}
use Rattle.format.specs.Node.{kind, of_kind, places, has_no_bitmap, valid, null_count, first_number, second_number, run_end, run_start}
use Rattle.format.specs.Node.{Ancestor, ancestors, parent, depth, child, data_buffer}

-- some node passes the test; some node below the root does
abbrev pub any_node : List ℕ → (ℕ → Bool) → Bool
any_node b p = any_below p (node_count b)

abbrev pub any_child : List ℕ → (ℕ → Bool) → Bool
any_child b p = any_node b (λ i. nat_lt 0 i && p i)

-- 1: under 16 or over 16,777,216 bytes
abbrev pub pack_limit : ℕ
pack_limit = 16_777_216

unfoldable pub wrong_size : List ℕ → Bool
wrong_size b = nat_lt (length b) 16 || nat_lt pack_limit (length b)

-- 2: mark
unfoldable pub wrong_mark : List ℕ → Bool
wrong_mark b = not (mark_of b == mark || mark_of b == old_mark)

-- 3: 1 to 64 nodes; the table ends where the trailer starts
unfoldable pub wrong_table : List ℕ → Bool
wrong_table b = nat_lt (node_count b) 1 || nat_lt 64 (node_count b) || not (table_start b + 40 * node_count b + 16 == length b)

-- a row of the table of kinds: the params and numbers of children allowed; whether a bitmap may stand; whether the fields
-- first at, second at and second length are used
pub record Layout : Type 0 where
  pub params : ℕ → Bool
  pub children : ℕ → Bool
  pub bitmap : Bool
  pub first : Bool
  pub second : Bool
  pub data_length : Bool

abbrev pub row : (ℕ → Bool) → (ℕ → Bool) → Bool → Bool → Bool → Bool → Layout
row p c m f s l = record { params = p; children = c; bitmap = m; first = f; second = s; data_length = l }

unfoldable pub one_of : List ℕ → ℕ → Bool
one_of [] n = false
one_of (x ∷ xs) n = n == x || one_of xs n

abbrev pub only : ℕ → ℕ → Bool
only m n = n == m

abbrev pub at_most : ℕ → ℕ → Bool
at_most m n = nat_le n m

abbrev pub any : ℕ → Bool
any n = true

abbrev pub layout : Kind → Layout
layout Bits = row (only 0) (only 0) true true false false
layout Native = row (one_of (1 ∷ 2 ∷ 4 ∷ 8 ∷ 16 ∷ 32 ∷ [])) (only 0) true true false false
layout Fixed = row (at_most 1024) (only 0) true true false false
layout Bytes32 = row (only 0) (only 0) true true true true
layout Bytes64 = row (only 0) (only 0) true true true true
layout Views = row (only 0) any true true false false
layout Lists32 = row (only 0) (only 1) true true true false
layout Lists64 = row (only 0) (only 1) true true true false
layout Runs = row (one_of (2 ∷ 4 ∷ 8 ∷ [])) (only 1) false true false false
layout Struct = row (only 0) any true false false false
layout Union = row (only 0) any false true false false
layout Dictionary = row (one_of (1 ∷ 2 ∷ 4 ∷ 8 ∷ [])) (only 1) true true false false
layout Nested32 = row (only 0) (only 1) true true false false
layout Nested64 = row (only 0) (only 1) true true false false
layout Unknown = row (one_of []) any true true true true

-- an unused field is 0
unfoldable pub misused : Bool → ℕ → Bool
misused used n = not (used || n == 0)

-- 4: kind, param, kids number, bitmap where none may be, unused field (the last one under the old mark)
unfoldable pub bad_fields : Layout → List ℕ → ℕ → Bool
bad_fields l b i =
    not (l.params (param b i))
    || not (l.children (kids b i))
    || not (l.bitmap || has_no_bitmap b i)
    || misused l.first (first_at b i)
    || misused l.second (second_at b i)
    || misused l.data_length (second_length b i)
    || misused (carries_counts b) (last_field b i)

unfoldable pub wrong_fields : List ℕ → Bool
wrong_fields b = any_node b (λ i. bad_fields (layout (kind b i)) b i)

-- 5: the tree closes after the last node and not before; depth is at most 8; a child of views is native of width 1 with no bitmap
unfoldable pub empty : List Ancestor → Bool
empty [] = true
empty (a ∷ s) = false

unfoldable pub not_closed : List ℕ → Bool
not_closed b = any_child b (λ i. empty (ancestors b i)) || not (empty (ancestors b (node_count b)))

unfoldable pub bad_data_buffer : List ℕ → ℕ → Bool
bad_data_buffer b i = of_kind 6 b (parent b i) && not (of_kind 2 b i && param b i == 1 && has_no_bitmap b i)

unfoldable pub wrong_tree : List ℕ → Bool
wrong_tree b = not_closed b || any_node b (λ i. ltb 8 (depth b i)) || any_child b (bad_data_buffer b)

-- 6: skip + rows is at most 1,048,576; the trailer's rows are the root's; children of struct and union have their parent's rows
unfoldable pub bad_child_rows : List ℕ → ℕ → Bool
bad_child_rows b i = (of_kind 10 b (parent b i) || of_kind 11 b (parent b i)) && not (rows b i == rows b (parent b i))

abbrev pub row_limit : ℕ
row_limit = 1_048_576

unfoldable pub wrong_rows : List ℕ → Bool
wrong_rows b = any_node b (λ i. ltb row_limit (places b i)) || not (root_rows b == rows b 0) || any_child b (bad_child_rows b)

-- the bytes of the first buffer, by kind, param, places and the child's rows; and of the second, by kind, places and second length
abbrev pub first_size : Kind → ℕ → ℕ → ℕ → ℕ
first_size Bits p n c = bytes_for n
first_size Native p n c = p * n
first_size Fixed p n c = p * n
first_size Bytes32 p n c = 4 * suc n
first_size Bytes64 p n c = 8 * suc n
first_size Views p n c = 16 * n
first_size Lists32 p n c = 4 * n
first_size Lists64 p n c = 8 * n
first_size Runs p n c = p * c
first_size Struct p n c = 0
first_size Union p n c = n
first_size Dictionary p n c = p * n
first_size Nested32 p n c = 4 * suc n
first_size Nested64 p n c = 8 * suc n
first_size Unknown p n c = 0

abbrev pub second_size : Kind → ℕ → ℕ → ℕ
second_size Bits n l = 0
second_size Native n l = 0
second_size Fixed n l = 0
second_size Bytes32 n l = l
second_size Bytes64 n l = l
second_size Views n l = 0
second_size Lists32 n l = 4 * n
second_size Lists64 n l = 8 * n
second_size Runs n l = 0
second_size Struct n l = 0
second_size Union n l = 0
second_size Dictionary n l = 0
second_size Nested32 n l = 0
second_size Nested64 n l = 0
second_size Unknown n l = 0

-- 7: a buffer leaves the body, which ends where the table starts (an unused one has place 0 and no bytes)
unfoldable pub bad_buffers : List ℕ → ℕ → Bool
bad_buffers b i =
    not (has_no_bitmap b i) && nat_lt (table_start b) (validity_at b i + bytes_for (places b i))
    || nat_lt (table_start b) (first_at b i + first_size (kind b i) (param b i) (places b i) (rows b (child i)))
    || nat_lt (table_start b) (second_at b i + second_size (kind b i) (places b i) (second_length b i))

unfoldable pub wrong_buffers : List ℕ → Bool
wrong_buffers b = any_node b (bad_buffers b)

-- offsets of w bytes start at 0 or more, never fall, end within the data: so many bytes, or rows of the child
unfoldable pub bad_offsets : ℕ → ℕ → List ℕ → ℕ → Bool
bad_offsets w size b i =
    negative w (first_number w b i 0)
    || any_below (λ r. negative w (first_number w b i (suc r)) || nat_lt (first_number w b i (suc r)) (first_number w b i r)) (rows b i)
    || nat_lt size (first_number w b i (rows b i))

-- field k of view r, 4 bytes each: length, prefix, buffer number, offset
unfoldable pub view_field : ℕ → List ℕ → ℕ → ℕ → ℕ
view_field k b i r = le 4 b (first_at b i + 16 * (skip b i + r) + 4 * k)

-- where the bytes of a long view start, in the child that it names
unfoldable pub view_data : List ℕ → ℕ → ℕ → ℕ
view_data b i r =
    let d = data_buffer i (view_field 2 b i r) in
    first_at b d + skip b d + view_field 3 b i r

-- a long view, above 12: its range lies in the child that it names, and its prefix is the first four data bytes
unfoldable pub bad_long : List ℕ → ℕ → ℕ → Bool
bad_long b i r =
    nat_le (kids b i) (view_field 2 b i r)
    || nat_lt (rows b (data_buffer i (view_field 2 b i r))) (view_field 3 b i r + view_field 0 b i r)
    || not (view_field 1 b i r == le 4 b (view_data b i r))

-- a short view, up to 12: of the 12 bytes behind the length, those past it are zero
unfoldable pub bad_short : List ℕ → ℕ → ℕ → Bool
bad_short b i r =
    any_below (λ k. nat_le (view_field 0 b i r) k && not (slice_index b (first_at b i + 16 * (skip b i + r) + 4 + k) == 0)) 12

-- a view's length is at least 0; it is right as a long one, or as a short one
unfoldable pub bad_view : List ℕ → ℕ → ℕ → Bool
bad_view b i r = negative 4 (view_field 0 b i r) || cond (nat_lt 12 (view_field 0 b i r)) (bad_long b i r) (bad_short b i r)

-- a list view's range lies in the child, null or not
unfoldable pub bad_range : ℕ → List ℕ → ℕ → ℕ → Bool
bad_range w b i r =
    negative w (first_number w b i r)
    || negative w (second_number w b i r)
    || nat_lt (rows b (child i)) (first_number w b i r + second_number w b i r)

-- all run ends are positive and strictly rising, the last at least skip + rows (with no runs, 0 is at least that)
unfoldable pub bad_runs : List ℕ → ℕ → Bool
bad_runs b i =
    any_below (λ j. negative (param b i) (run_end b i j) || nat_le (run_end b i j) (run_start b i j)) (rows b (child i))
    || nat_lt (run_start b i (rows b (child i))) (places b i)

-- 8: content, by kind
unfoldable pub bad_content : Kind → List ℕ → ℕ → Bool
bad_content Bits b i = false
bad_content Native b i = false
bad_content Fixed b i = false
bad_content Bytes32 b i = bad_offsets 4 (second_length b i) b i
bad_content Bytes64 b i = bad_offsets 8 (second_length b i) b i
bad_content Views b i = any_below (bad_view b i) (rows b i)
bad_content Lists32 b i = any_below (bad_range 4 b i) (rows b i)
bad_content Lists64 b i = any_below (bad_range 8 b i) (rows b i)
bad_content Runs b i = bad_runs b i
bad_content Struct b i = false
bad_content Union b i = any_below (λ r. leb (kids b i) (first_number 1 b i r)) (rows b i)
bad_content Dictionary b i = any_below (λ r. valid b i r && nat_le (rows b (child i)) (first_number (param b i) b i r)) (rows b i)
bad_content Nested32 b i = bad_offsets 4 (rows b (child i)) b i
bad_content Nested64 b i = bad_offsets 8 (rows b (child i)) b i
bad_content Unknown b i = false

unfoldable pub wrong_content : List ℕ → Bool
wrong_content b = any_node b (λ i. bad_content (kind b i) b i)

-- 20: a carried null count is wrong
unfoldable pub wrong_nulls : List ℕ → Bool
wrong_nulls b = carries_counts b && any_node b (λ i. not (last_field b i == null_count b i))

-- 9: mask root not bits
unfoldable pub wrong_root : List ℕ → Bool
wrong_root b = not (of_kind 1 b 0)

-- a condition: its number, and whether it holds
pub data Condition : Type 0 where
  condition : ℕ → Bool → Condition

-- the conditions tried on every pack, in order: 1 to 8, straight after them 20; a mask has one more
unfoldable pub conditions : List ℕ → List Condition
conditions b =
    condition 1 (wrong_size b)
    ∷ condition 2 (wrong_mark b)
    ∷ condition 3 (wrong_table b)
    ∷ condition 4 (wrong_fields b)
    ∷ condition 5 (wrong_tree b)
    ∷ condition 6 (wrong_rows b)
    ∷ condition 7 (wrong_buffers b)
    ∷ condition 8 (wrong_content b)
    ∷ condition 20 (wrong_nulls b)
    ∷ []

-- the number of the first condition that holds; 0 if none does
unfoldable pub first_of : List Condition → ℕ
first_of [] = 0
first_of (condition n true ∷ cs) = n
first_of (condition n false ∷ cs) = first_of cs

-- the number by which a journal (a mask) is refused on its own; 0: it is accepted
unfoldable pub journal_verdict : List ℕ → ℕ
journal_verdict b = first_of (conditions b)

unfoldable pub mask_verdict : List ℕ → ℕ
mask_verdict b = first_of (conditions b ++ (condition 9 (wrong_root b) ∷ []))

-- to unfold `opened` is to unfold all of this module
unfoldable pub opened : Unit {0}
unfolding wrong_size wrong_mark wrong_table one_of misused bad_fields wrong_fields empty not_closed bad_data_buffer wrong_tree bad_child_rows wrong_rows bad_buffers wrong_buffers bad_offsets view_field view_data bad_long bad_short bad_view bad_range bad_runs bad_content wrong_content wrong_nulls wrong_root conditions first_of journal_verdict mask_verdict
opened = tt
