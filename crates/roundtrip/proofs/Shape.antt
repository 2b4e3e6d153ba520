-- Refusals 1 to 7 and 20 are false of an extract: size, mark, table, fields, tree, rows, buffers in the body, and null counts. Assumes nothing.
use Prim.Native.Nat.{ℕ, zero, suc, ◌+◌, ◌*◌, ◌≤◌, ◌<◌}
use mathlib.Core.Path.{◌≡◌, refl, sym, ap, ap₂, ◌∙◌}
use mathlib.Core.Bool.{Bool, true, false, not, ◌&&◌, ◌||◌, and-false, true≢false}
use mathlib.Core.List.{List, [], ◌∷◌, map}
use native.Mathlib.Omega.{arith}
use borrow.Author.Tests.{le-ltb, eq-eqb, eqb-true}
use lib.Dec.{eqb, ltb}
use lib.ListN.{length, length-map}
use Rattle.format.specs.declared.Kind.{Kind}
use Rattle.format.specs.declared.Kind.TheVariants.{Bits, Native, Fixed, Bytes32, Bytes64, Views, Lists32, Lists64, Runs, Struct, Union, Dictionary, Nested32, Nested64, Unknown}
use Rattle.format.specs.Bytes.{any_below, chosen, bytes_for, bit_at, join, packed}
use Rattle.format.specs.Node.{table_start, node_count, root_rows, mark_of, mark, old_mark, carries_counts, null_count, kind_number, kind_of, kind, of_kind, param, rows, skip, validity_at, first_at, second_at, second_length, last_field, no_bitmap, has_no_bitmap, valid, places, child}
use Rattle.format.specs.Node.{ancestors, parent, depth}
use Rattle.format.specs.Verdict.{pack_limit, wrong_size, wrong_mark, wrong_table, wrong_fields, wrong_tree, wrong_rows, wrong_buffers, wrong_nulls, bad_fields, layout, misused, not_closed, empty, bad_data_buffer, bad_child_rows, bad_buffers, first_size, second_size}
use Rattle.format.specs.Kept.{columns, cells, kept_part, kept_rows, first_entry, second_entry, own_bytes, span_size}
use Rattle.format.specs.Write.{absent, holds, nulls, any_null, bitmap, first, second, data_length, total, numbers, offsets, ends, extract}
use Rattle.format.specs.Accepted.{Shares}
use Rattle.format.specs.Accepted as is
use Rattle.format.proofs.Laws.{none_any, length-table, accepted}
use Rattle.format.proofs.NullLaws.{count-nulls}
use Rattle.format.proofs.Accepted.{or_left, or_right, below_root, kind-number}
use Rattle.format.proofs.Measure.{length-write, length-packed, length-numbers}
use Rattle.roundtrip.specs.Back.{Extracted}
use Rattle.roundtrip.specs.Placed.{node_at}
use Rattle.roundtrip.proofs.Parts.{length-entries}
use Rattle.roundtrip.proofs.Written.{table-start, node-count, root-rows, mark-is, rows_back, last-back, valid-back, length_back, no-bitmap, no-first, no_second, bitmap-lies, first-lies, second-lies}
use Rattle.roundtrip.proofs.Rows.{kept-shared, kept-below}
use Rattle.roundtrip.proofs.Again.{facts, fits, inside, count-marks, same_count, same_number, same_kind, same-param, same-kids, rows-kept, none-skipped, same-ancestors, same-parent, marks-are, values-are, sizes, run-count, first-wide, second-wide, first_fits, second_fits}

-- ---- tests

-- tests that agree below n
any-ext : (p q : ℕ → Bool) (n : ℕ) → ((i : ℕ) → i < n → p i ≡ q i) → any_below p n ≡ any_below q n
unfolding any_below
any-ext p q zero h = refl
any-ext p q (suc n) h = rw (any-ext p q n (λ i l. h i (omega arith)), h n (omega arith))

pub or-none : {a b : Bool} → a ≡ false → b ≡ false → (a || b) ≡ false
or-none p q = rw (p, q)

-- a child of views, with its bitmap gone
less-bad : (a b c d : Bool) → (a && not (b && c)) ≡ false → (c ≡ true → d ≡ true) → (a && not (b && d)) ≡ false
less-bad false b c d h f = refl
less-bad true true true d h f = rw (f refl)
less-bad true true false d h f = absurd (true≢false h)
less-bad true false c d h f = absurd (true≢false h)

-- struct and union, by number
shares_of : (b : List ℕ) (i : ℕ) → (of_kind 10 b i || of_kind 11 b i) ≡ true → Shares (kind b i)
unfolding of_kind kind_of
shares_of b i q = go (of_kind 10 b i) refl
  where
    go : (t : Bool) → of_kind 10 b i ≡ t → Shares (kind b i)
    go true p = rw (kind-number b i 10 (eqb-true (kind_number b i) 10 p)) is.Shares.struct
    go false p = rw (kind-number b i 11 (eqb-true (kind_number b i) 11 (rw p at q))) is.Shares.union

pub none-null : (f : ℕ → Bool) (rs : List ℕ) → ((r : ℕ) → f r ≡ true) → any_null (map f rs) ≡ false
unfolding any_null
none-null f [] h = refl
none-null f (r ∷ rs) h = rw (h r, none-null f rs h)

module _ {b rs : List ℕ} (x : Extracted b rs) where
  abbrev e : List ℕ
  e = extract b rs

  -- 1, 2, 3
  pub size-right : wrong_size e ≡ false
  unfolding wrong_size extract
  size-right =
      or-none (le-ltb (length e) 16 (omega (arith, length-write (columns b) (kept_part b rs)))) (le-ltb pack_limit (length e) x.short)

  counts-carried : carries_counts e ≡ true
  unfolding carries_counts extract
  counts-carried = eq-eqb (mark_of e) mark (mark-is (columns b) (kept_part b rs) (fits x))

  pub mark-right : wrong_mark e ≡ false
  unfolding wrong_mark carries_counts
  mark-right = ap (λ (t : Bool). not (t || eqb (mark_of e) old_mark)) counts-carried

  pub table-ends : table_start e + 40 * node_count e + 16 ≡ length e
  unfolding extract
  table-ends =
      omega (arith, table-start (columns b) (kept_part b rs) (fits x), node-count (columns b) (kept_part b rs) (fits x), length-write (columns b) (kept_part b rs))

  pub table-right : wrong_table e ≡ false
  unfolding wrong_table
  table-right =
      or-none
      (or-none (le-ltb (node_count e) 1 (omega (arith, same_count x, (facts x).shape.some))) (le-ltb 64 (node_count e) (omega (arith, same_count x, (facts x).shape.few))))
      (ap not (eq-eqb _ (length e) table-ends))

  -- a test of each node
  pub each-node : (p : ℕ → Bool) → ((i : ℕ) → i < node_count b → p i ≡ false) → any_below p (node_count e) ≡ false
  each-node p h = none_any p (node_count e) (λ i l. h i (rw (same_count x) at l))

  module _ (i : ℕ) (l : i < node_count b) where
    abbrev kept : List ℕ
    kept = kept_rows b rs i

    -- a node with no bitmap has none again
    pub unmarked-again : validity_at b i ≡ no_bitmap → validity_at e i ≡ no_bitmap
    unfolding extract bitmap valid has_no_bitmap
    unmarked-again q =
        no-bitmap (columns b) (kept_part b rs) (fits x) i (inside x i l) (rw (marks-are x i l, none-null (valid b i) kept all_valid))
      where
        all_valid : (r : ℕ) → valid b i r ≡ true
        all_valid r = rw (eq-eqb _ no_bitmap q)

    -- 4
    zero-unused : (n : ℕ) → n ≡ 0 → misused false n ≡ false
    unfolding misused
    zero-unused n q = ap not (eq-eqb n 0 q)

    first-zero : kind b i ≡ Struct → first_at e i ≡ 0
    unfolding extract cells first
    first-zero q = no-first (columns b) (kept_part b rs) (fits x) i (inside x i l) (ap first (values-are x i l Struct q))

    first-used : (k : Kind) → kind b i ≡ k → misused (layout k).first (first_at e i) ≡ false
    unfolding misused
    first-used Bits q = refl
    first-used Native q = refl
    first-used Fixed q = refl
    first-used Bytes32 q = refl
    first-used Bytes64 q = refl
    first-used Views q = refl
    first-used Lists32 q = refl
    first-used Lists64 q = refl
    first-used Runs q = refl
    first-used Struct q = zero-unused (first_at e i) (first-zero q)
    first-used Union q = refl
    first-used Dictionary q = refl
    first-used Nested32 q = refl
    first-used Nested64 q = refl
    first-used Unknown q = refl

    second-zero : (k : Kind) → kind b i ≡ k → second (cells k b i kept) ≡ absent → second_at e i ≡ 0
    unfolding extract
    second-zero k q h = no_second (columns b) (kept_part b rs) (fits x) i (inside x i l) (ap second (values-are x i l k q) ∙ h)

    second-used : (k : Kind) → kind b i ≡ k → misused (layout k).second (second_at e i) ≡ false
    unfolding misused cells second
    second-used Bits q = zero-unused (second_at e i) (second-zero Bits q refl)
    second-used Native q = zero-unused (second_at e i) (second-zero Native q refl)
    second-used Fixed q = zero-unused (second_at e i) (second-zero Fixed q refl)
    second-used Bytes32 q = refl
    second-used Bytes64 q = refl
    second-used Views q = zero-unused (second_at e i) (second-zero Views q refl)
    second-used Lists32 q = refl
    second-used Lists64 q = refl
    second-used Runs q = zero-unused (second_at e i) (second-zero Runs q refl)
    second-used Struct q = zero-unused (second_at e i) (second-zero Struct q refl)
    second-used Union q = zero-unused (second_at e i) (second-zero Union q refl)
    second-used Dictionary q = zero-unused (second_at e i) (second-zero Dictionary q refl)
    second-used Nested32 q = zero-unused (second_at e i) (second-zero Nested32 q refl)
    second-used Nested64 q = zero-unused (second_at e i) (second-zero Nested64 q refl)
    second-used Unknown q = refl

    pub length-is : (k : Kind) → kind b i ≡ k → second_length e i ≡ data_length (cells k b i kept)
    unfolding extract
    length-is k q = length_back (columns b) (kept_part b rs) (fits x) i (inside x i l) ∙ ap data_length (values-are x i l k q)

    length-used : (k : Kind) → kind b i ≡ k → misused (layout k).data_length (second_length e i) ≡ false
    unfolding misused cells data_length
    length-used Bits q = zero-unused (second_length e i) (length-is Bits q)
    length-used Native q = zero-unused (second_length e i) (length-is Native q)
    length-used Fixed q = zero-unused (second_length e i) (length-is Fixed q)
    length-used Bytes32 q = refl
    length-used Bytes64 q = refl
    length-used Views q = zero-unused (second_length e i) (length-is Views q)
    length-used Lists32 q = zero-unused (second_length e i) (length-is Lists32 q)
    length-used Lists64 q = zero-unused (second_length e i) (length-is Lists64 q)
    length-used Runs q = zero-unused (second_length e i) (length-is Runs q)
    length-used Struct q = zero-unused (second_length e i) (length-is Struct q)
    length-used Union q = zero-unused (second_length e i) (length-is Union q)
    length-used Dictionary q = zero-unused (second_length e i) (length-is Dictionary q)
    length-used Nested32 q = zero-unused (second_length e i) (length-is Nested32 q)
    length-used Nested64 q = zero-unused (second_length e i) (length-is Nested64 q)
    length-used Unknown q = refl

    bitmap-used : (t : Bool) → (layout (kind b i)).bitmap ≡ t → (t || has_no_bitmap e i) ≡ true
    unfolding has_no_bitmap
    bitmap-used true q = refl
    bitmap-used false q = eq-eqb (validity_at e i) no_bitmap (unmarked-again (((facts x).fields i l).unmarked q))

    last-used : misused (carries_counts e) (last_field e i) ≡ false
    unfolding misused
    last-used = ap (λ (t : Bool). not (t || eqb (last_field e i) 0)) counts-carried

    -- 20
    nulls-counted : null_count e i ≡ nulls (node_at (kept_part b rs) i).marks
    unfolding null_count extract
    nulls-counted =
        ap (λ (n : ℕ). length (chosen (λ r. not (valid e i r)) n)) (rows-kept x i l ∙ sym (count-marks x i l))
        ∙ count-nulls (node_at (kept_part b rs) i).marks (valid e i) (valid-back (columns b) (kept_part b rs) (fits x) i (inside x i l))

    count-right : not (eqb (last_field e i) (null_count e i)) ≡ false
    unfolding extract
    count-right = ap not (eq-eqb (last_field e i) (null_count e i) (last-back (columns b) (kept_part b rs) (fits x) i (inside x i l) ∙ sym nulls-counted))

    node-fields : bad_fields (layout (kind e i)) e i ≡ false
    unfolding bad_fields
    node-fields =
        rw (
          same_kind x i l,
          same-param x i l,
          same-kids x i l,
          ((facts x).fields i l).params,
          ((facts x).fields i l).children,
          bitmap-used (layout (kind b i)).bitmap refl,
          first-used (kind b i) refl,
          second-used (kind b i) refl,
          length-used (kind b i) refl,
          last-used,
        )

  pub fields-right : wrong_fields e ≡ false
  unfolding wrong_fields
  fields-right = each-node (λ i. bad_fields (layout (kind e i)) e i) node-fields

  pub nulls-right : wrong_nulls e ≡ false
  unfolding wrong_nulls
  nulls-right = rw counts-carried (each-node (λ i. not (eqb (last_field e i) (null_count e i))) count-right)

  -- 5
  closed-again : not_closed e ≡ not_closed b
  unfolding not_closed
  closed-again =
      ap₂ ◌||◌ (ap (any_below _) (same_count x) ∙ any-ext _ _ (node_count b) (λ i l. rw (same-ancestors x i (omega arith))))
      (ap (λ (n : ℕ). not (empty (ancestors e n))) (same_count x) ∙ rw (same-ancestors x (node_count b) (omega arith)))

  -- a test of each node below the root
  each-child : (p : ℕ → Bool) → ((i : ℕ) → 0 < i → i < node_count b → p i ≡ false) → any_below (λ i. ltb 0 i && p i) (node_count e) ≡ false
  each-child p h = each-node (λ i. ltb 0 i && p i) go
    where
      go : (i : ℕ) → i < node_count b → (ltb 0 i && p i) ≡ false
      go zero l = refl
      go (suc i) l = rw (h (suc i) (omega arith) l) (and-false (ltb 0 (suc i)))

  buffer-before : (i : ℕ) → 0 < i → i < node_count b → bad_data_buffer b i ≡ false
  unfolding wrong_tree
  buffer-before i h l =
      below_root (bad_data_buffer b) (node_count b) i h l (or_right (not_closed b || any_below (λ i. ltb 8 (depth b i)) (node_count b)) _ (accepted b x.accepted).tree)

  buffer-right : (i : ℕ) → 0 < i → i < node_count b → bad_data_buffer e i ≡ false
  unfolding bad_data_buffer of_kind has_no_bitmap
  buffer-right i h l =
      rw (same-parent x i (omega arith), same_number x (parent b i) (omega (arith, (facts x).shape.above i h)), same_number x i l, same-param x i l)
      (less-bad (of_kind 6 b (parent b i)) (of_kind 2 b i && eqb (param b i) 1) (has_no_bitmap b i) (has_no_bitmap e i) (buffer-before i h l)
      (λ t. eq-eqb (validity_at e i) no_bitmap (unmarked-again i l (eqb-true (validity_at b i) no_bitmap t))))

  pub tree-right : wrong_tree e ≡ false
  unfolding wrong_tree depth
  tree-right =
      or-none
      (or-none (closed-again ∙ or_left _ _ (or_left _ _ (accepted b x.accepted).tree))
      (each-node (λ i. ltb 8 (depth e i)) (λ i l. rw (same-ancestors x i (omega arith)) (le-ltb 8 (depth b i) ((facts x).shape.shallow i l)))))
      (each-child (bad_data_buffer e) buffer-right)

  -- 6
  pub places-kept : (i : ℕ) → i < node_count b → places e i ≡ length (kept_rows b rs i)
  unfolding places
  places-kept i l = omega (arith, none-skipped x i l, rows-kept x i l)

  few-places : (i : ℕ) → i < node_count b → places e i ≤ 1_048_576
  unfolding places
  few-places i l = omega (arith, places-kept i l, (kept-below b rs (facts x) x.picked i l).few, places-more, (facts x).agree.limit i l)
    where
      places-more : rows b i ≤ places b i
      places-more = omega arith

  root-right : root_rows e ≡ rows e 0
  unfolding extract
  root-right = root-rows (columns b) (kept_part b rs) (fits x) ∙ sym (rows_back (columns b) (kept_part b rs) (fits x) 0 (fits x).some)

  child-right : (i : ℕ) → 0 < i → i < node_count b → bad_child_rows e i ≡ false
  unfolding bad_child_rows of_kind
  child-right i h l =
      rw (same-parent x i (omega arith), same_number x p up) (go (of_kind 10 b p || of_kind 11 b p) refl)
    where
      p : ℕ
      p = parent b i

      up : p < node_count b
      up = omega (arith, (facts x).shape.above i h)

      go : (t : Bool) → (of_kind 10 b p || of_kind 11 b p) ≡ t → (t && not (eqb (rows e i) (rows e p))) ≡ false
      go false q = refl
      go true q = ap not (eq-eqb (rows e i) (rows e p) (rows-kept x i l ∙ ap length (kept-shared b rs i h (shares_of b p q)) ∙ sym (rows-kept x p up)))

  pub rows_right : wrong_rows e ≡ false
  unfolding wrong_rows
  rows_right =
      or-none
      (or-none (each-node (λ i. ltb 1_048_576 (places e i)) (λ i l. le-ltb 1_048_576 (places e i) (few-places i l))) (ap not (eq-eqb (root_rows e) (rows e 0) root-right)))
      (each-child (bad_child_rows e) child-right)

  -- 7
  module _ (i : ℕ) (l : i < node_count b) where
    bitmap-inside : (not (has_no_bitmap e i) && ltb (table_start e) (validity_at e i + bytes_for (places e i))) ≡ false
    unfolding extract bitmap has_no_bitmap
    bitmap-inside = go (any_null (node_at (kept_part b rs) i).marks) refl
      where
        go : (t : Bool) → any_null (node_at (kept_part b rs) i).marks ≡ t → (not (has_no_bitmap e i) && ltb (table_start e) (validity_at e i + bytes_for (places e i))) ≡ false
        go true q =
            let m : bitmap (node_at (kept_part b rs) i).marks ≡ holds (packed (node_at (kept_part b rs) i).marks) = rw q in
            let n : length (packed (node_at (kept_part b rs) i).marks) ≡ bytes_for (places e i) =
            length-packed (node_at (kept_part b rs) i).marks ∙ ap bytes_for (count-marks x i l ∙ sym (places-kept i l)) in
            rw (le-ltb (table_start e) (validity_at e i + bytes_for (places e i))
            (omega (arith, n, (bitmap-lies (columns b) (kept_part b rs) (fits x) i (inside x i l) _ m).inside)))
            (and-false (not (has_no_bitmap e i)))
        go false q =
            let m : bitmap (node_at (kept_part b rs) i).marks ≡ absent = rw q in
            rw (eq-eqb (validity_at e i) no_bitmap (no-bitmap (columns b) (kept_part b rs) (fits x) i (inside x i l) m))

    -- a buffer ends by the table
    module _ (k : Kind) (q : kind b i ≡ k) where
      first_ends : (y : List ℕ) → first (cells k b i (kept_rows b rs i)) ≡ holds y → first_at e i + length y ≤ table_start e
      unfolding extract
      first_ends y h = (first-lies (columns b) (kept_part b rs) (fits x) i (inside x i l) y (ap first (values-are x i l k q) ∙ h)).inside

      second-ends : (y : List ℕ) → second (cells k b i (kept_rows b rs i)) ≡ holds y → second_at e i + length y ≤ table_start e
      unfolding extract
      second-ends y h = (second-lies (columns b) (kept_part b rs) (fits x) i (inside x i l) y (ap second (values-are x i l k q) ∙ h)).inside

      entries-inside : (w : ℕ) → first_at b i + w * places b i ≤ table_start b → first (cells k b i (kept_rows b rs i)) ≡ holds (join (map (first_entry w b i) (kept_rows b rs i)))
          → first_at e i + w * places e i ≤ table_start e
      entries-inside w fit h =
          let n : length (join (map (first_entry w b i) (kept_rows b rs i))) ≡ w * places e i =
          length-entries w (map (first_entry w b i) (kept_rows b rs i)) (first-wide x i l w _ (values-are x i l k q) fit h)
          ∙ ap (w *◌) (length-map (kept_rows b rs i) (first_entry w b i) ∙ sym (places-kept i l)) in
          omega (arith, n, first_ends _ h)

      seconds-inside : (w : ℕ) → second_at b i + w * places b i ≤ table_start b → second (cells k b i (kept_rows b rs i)) ≡ holds (join (map (second_entry w b i) (kept_rows b rs i)))
          → second_at e i + w * places e i ≤ table_start e
      seconds-inside w fit h =
          let n : length (join (map (second_entry w b i) (kept_rows b rs i))) ≡ w * places e i =
          length-entries w (map (second_entry w b i) (kept_rows b rs i)) (second-wide x i l w _ (values-are x i l k q) fit h)
          ∙ ap (w *◌) (length-map (kept_rows b rs i) (second_entry w b i) ∙ sym (places-kept i l)) in
          omega (arith, n, second-ends _ h)

      -- offsets, one more than rows
      offsets-end : (w : ℕ) (sizes : List ℕ) → first (cells k b i (kept_rows b rs i)) ≡ holds (numbers w (offsets sizes)) → length sizes ≡ length (kept_rows b rs i)
          → first_at e i + w * suc (places e i) ≤ table_start e
      unfolding offsets
      offsets-end w sizes h q =
          let n : length (numbers w (offsets sizes)) ≡ w * suc (places e i) =
          length-numbers w (offsets sizes) ∙ ap (w *◌) (length-table (total sizes) (suc (length sizes)) ∙ ap suc (q ∙ sym (places-kept i l))) in
          omega (arith, n, first_ends _ h)

      offsets-inside : (w : ℕ) → first (cells k b i (kept_rows b rs i)) ≡ holds (numbers w (offsets (map length (map (own_bytes w b i) (kept_rows b rs i)))))
          → first_at e i + w * suc (places e i) ≤ table_start e
      offsets-inside w h =
          offsets-end w _ h (length-map (map (own_bytes w b i) (kept_rows b rs i)) length ∙ length-map (kept_rows b rs i) (own_bytes w b i))

      spans-inside : (w : ℕ) → first (cells k b i (kept_rows b rs i)) ≡ holds (numbers w (offsets (map (span_size w b i) (kept_rows b rs i))))
          → first_at e i + w * suc (places e i) ≤ table_start e
      spans-inside w h = offsets-end w _ h (length-map (kept_rows b rs i) (span_size w b i))

    bits_inside : (q : kind b i ≡ Bits) → first_at e i + bytes_for (places e i) ≤ table_start e
    unfolding cells first
    bits_inside q =
        let bs : List Bool = map (λ r. bit_at b (first_at b i) (skip b i + r)) (kept_rows b rs i) in
        let n : length (packed bs) ≡ bytes_for (places e i) =
        length-packed bs ∙ ap bytes_for (length-map (kept_rows b rs i) (λ r. bit_at b (first_at b i) (skip b i + r)) ∙ sym (places-kept i l)) in
        omega (arith, n, first_ends Bits q _ refl)

    ends-inside : (q : kind b i ≡ Runs) → first_at e i + param b i * rows e (child i) ≤ table_start e
    unfolding cells first ends
    ends-inside q =
        let n : length (numbers (param b i) (ends (sizes x i l q))) ≡ param b i * rows e (child i) =
        length-numbers (param b i) (ends (sizes x i l q)) ∙ ap (param b i *◌) (length-table (λ k. total (sizes x i l q) (suc k)) (length (sizes x i l q)) ∙ sym (run-count x i l q)) in
        omega (arith, n, first_ends Runs q _ refl)

    first-inside : (k : Kind) → kind b i ≡ k → first_at e i + first_size k (param b i) (places e i) (rows e (child i)) ≤ table_start e
    unfolding cells first
    first-inside Bits q = bits_inside q
    first-inside Native q = entries-inside Native q (param b i) (first_fits x i l Native q) refl
    first-inside Fixed q = entries-inside Fixed q (param b i) (first_fits x i l Fixed q) refl
    first-inside Bytes32 q = offsets-inside Bytes32 q 4 refl
    first-inside Bytes64 q = offsets-inside Bytes64 q 8 refl
    first-inside Views q = entries-inside Views q 16 (first_fits x i l Views q) refl
    first-inside Lists32 q = entries-inside Lists32 q 4 (first_fits x i l Lists32 q) refl
    first-inside Lists64 q = entries-inside Lists64 q 8 (first_fits x i l Lists64 q) refl
    first-inside Runs q = ends-inside q
    first-inside Struct q = omega (arith, first-zero i l q)
    first-inside Union q = omega (arith, entries-inside Union q 1 (omega (arith, first_fits x i l Union q)) refl)
    first-inside Dictionary q = entries-inside Dictionary q (param b i) (first_fits x i l Dictionary q) refl
    first-inside Nested32 q = spans-inside Nested32 q 4 refl
    first-inside Nested64 q = spans-inside Nested64 q 8 refl
    first-inside Unknown q = absurd (((facts x).fields i l).known q)

    second-inside : (k : Kind) → kind b i ≡ k → second_at e i + second_size k (places e i) (second_length e i) ≤ table_start e
    unfolding cells second data_length
    second-inside Bits q = omega (arith, second-zero i l Bits q refl)
    second-inside Native q = omega (arith, second-zero i l Native q refl)
    second-inside Fixed q = omega (arith, second-zero i l Fixed q refl)
    second-inside Bytes32 q = rw (length-is i l Bytes32 q) (second-ends Bytes32 q _ refl)
    second-inside Bytes64 q = rw (length-is i l Bytes64 q) (second-ends Bytes64 q _ refl)
    second-inside Views q = omega (arith, second-zero i l Views q refl)
    second-inside Lists32 q = seconds-inside Lists32 q 4 (second_fits x i l Lists32 q) refl
    second-inside Lists64 q = seconds-inside Lists64 q 8 (second_fits x i l Lists64 q) refl
    second-inside Runs q = omega (arith, second-zero i l Runs q refl)
    second-inside Struct q = omega (arith, second-zero i l Struct q refl)
    second-inside Union q = omega (arith, second-zero i l Union q refl)
    second-inside Dictionary q = omega (arith, second-zero i l Dictionary q refl)
    second-inside Nested32 q = omega (arith, second-zero i l Nested32 q refl)
    second-inside Nested64 q = omega (arith, second-zero i l Nested64 q refl)
    second-inside Unknown q = absurd (((facts x).fields i l).known q)

    node-buffers : bad_buffers e i ≡ false
    unfolding bad_buffers
    node-buffers =
        or-none (or-none bitmap-inside (le-ltb (table_start e) _ (rw (same_kind x i l, same-param x i l) (first-inside (kind b i) refl))))
        (le-ltb (table_start e) _ (rw (same_kind x i l) (second-inside (kind b i) refl)))

  pub buffers-right : wrong_buffers e ≡ false
  unfolding wrong_buffers
  buffers-right = each-node (bad_buffers e) node-buffers
