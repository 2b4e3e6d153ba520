-- The extract of an accepted journal has the journal's columns and tree, and, read back with all its rows, the kept part that it was made from. Assumes nothing.
use Prim.Native.Nat.{ℕ, zero, suc, ◌+◌, ◌-◌, ◌*◌, ◌^◌, ◌≤◌, ◌<◌}
use mathlib.Core.Path.{◌≡◌, refl, sym, ap, ap₂, ◌∙◌}
use mathlib.Core.Bool.{Bool, true, false, cond}
use mathlib.Core.List.{List, [], ◌∷◌, map}
use native.Mathlib.Nat.{mul-suc, mul-le-mul_left, one-le-pow}
use native.Mathlib.Omega.{arith}
use borrow.Author.Tests.{lt-ltb}
use lib.Dec.{lit<}
use lib.ListN.{length, get_or, length-map}
use Rattle.format.specs.declared.Kind.{Kind}
use Rattle.format.specs.declared.Kind.TheVariants.{Bits, Native, Fixed, Bytes32, Bytes64, Views, Lists32, Lists64, Runs, Struct, Union, Dictionary, Nested32, Nested64, Unknown}
use Rattle.format.specs.Bytes.{table, join, bytes_at, bit_at, count_if, within}
use Rattle.format.specs.Node.{table_start, node_count, kind_number, kind_of, kind, param, rows, skip, kids, first_at, second_at, second_length, field, valid, places, run_end, run_start, child, first_number}
use Rattle.format.specs.Node.{ancestors, parent}
use Rattle.format.specs.Verdict.{pack_limit, first_size, second_size}
use Rattle.format.specs.Kept.{Column, columns, KeptNode, Cells, flags, entries, texts, ranges, groups, spans, first_entry, second_entry, own_bytes, cells, kept_node, kept_part, kept_rows, kept_runs, span_size, kept_spans, carried, group_size, in_run}
use Rattle.format.specs.Write.{holds, total, write, extract, first, second, no_column, no_node}
use Rattle.format.specs.Accepted.{OneChild, Nests, Inner, shared, by_runs, by_spans, Sound}
use Rattle.format.specs.Accepted as is
use Rattle.format.proofs.Laws.{get_or-table, kept-root, kept_at}
use Rattle.format.proofs.Measure.{length-columns}
use Rattle.format.proofs.Numbers.{table-ext, table-front, le-lt, length-bytes}
use Rattle.format.proofs.Accepted.{sound}
use Rattle.roundtrip.specs.Back.{Extracted, all_rows}
use Rattle.roundtrip.specs.Placed.{Fits, column_at, node_at}
use Rattle.roundtrip.proofs.Parts.{get_d_map, map_rows, total-more}
use Rattle.roundtrip.proofs.Written.{node-count, kind-back, param-back, rows_back, skip-back, kids-back, valid-back}
use Rattle.roundtrip.proofs.Cells.{total_mono, flags-back, entries-back, seconds-back, text-back, span-back, end_back, start_back}
use Rattle.roundtrip.proofs.Rows.{kept-shared, kept-carried, kept-runs, kept-nested, only-nested, kept-below, count-spans, spans-follow, all-shared, some-shared, between, chosen-all}

-- a child carried again
carried-again : (rs : List ℕ) (n : ℕ) → carried (all_rows (length rs)) (length (carried rs n)) ≡ all_rows (length (carried rs n))
unfolding carried table
carried-again [] n = refl
carried-again (r ∷ rs) n = go (all_rows (suc (length rs))) (table-front (λ k. k) (length rs))
  where
    go : (xs : List ℕ) → xs ≡ 0 ∷ table (λ j. suc j) (length rs) → carried xs (length (table (λ (k : ℕ). k) n)) ≡ all_rows (length (table (λ (k : ℕ). k) n))
    go xs e = rw e

-- a run's share, from where the run lies
group-as : (b : List ℕ) (i : ℕ) (rs : List ℕ) (j : ℕ) {k s t : ℕ} → skip b i ≡ k → run_start b i j ≡ s → run_end b i j ≡ t → group_size b i rs j ≡ count_if (within k s t) rs
unfolding group_size in_run
group-as b i rs j p q r = ap (λ (f : ℕ → Bool). count_if f rs) (ap₂ (λ (f : ℕ → ℕ → ℕ → Bool) (n : ℕ). f n (run_end b i j)) (ap within p) q ∙ rw r)

module _ {b rs : List ℕ} (x : Extracted b rs) where
  abbrev e : List ℕ
  e = extract b rs

  -- what acceptance gives
  pub facts : Sound b
  facts = sound b x.accepted

  abbrev kept : ℕ → List ℕ
  kept i = kept_rows b rs i

  -- what is handed to the writer, node by node
  column-at : (i : ℕ) → i < node_count b → column_at (columns b) i ≡ record { kind_is = kind_number b i; param_is = param b i; kids_are = kids b i }
  unfolding columns
  column-at i l = get_or-table _ (node_count b) i no_column l

  pub node_at-is : (i : ℕ) → i < node_count b → node_at (kept_part b rs) i ≡ kept_node b i (kept i)
  node_at-is i l = kept_at b rs i no_node l

  -- and each number of it fits its four bytes
  field_lt : (k i : ℕ) → field k b i < 256 ^ 4
  unfolding field
  field_lt k i = le-lt 4 b (table_start b + 40 * i + 4 * k) x.bytes

  pub count-marks : (i : ℕ) → i < node_count b → length (node_at (kept_part b rs) i).marks ≡ length (kept i)
  unfolding kept_node
  count-marks i l = ap (λ (k : KeptNode). length k.marks) (node_at-is i l) ∙ length-map (kept i) (valid b i)

  pub fits : Fits (columns b) (kept_part b rs)
  unfolding extract kind_number param kids rows
  fits =
      record {
        size = x.short;
        kinds = λ i l. let l' : i < node_count b = rw (length-columns b) at l in rw (column-at i l') (field_lt 0 i);
        params = λ i l. let l' : i < node_count b = rw (length-columns b) at l in rw (column-at i l') (field_lt 1 i);
        kids = λ i l. let l' : i < node_count b = rw (length-columns b) at l in rw (column-at i l') (field_lt 4 i);
        some = rw (length-columns b) facts.shape.some;
        rows = λ i l. let l' : i < node_count b = rw (length-columns b) at l in omega (arith, count-marks i l', (kept-below b rs facts x.picked i l').few, field_lt 2 i);
      }

  -- ---- the columns and the tree

  pub same_count : node_count e ≡ node_count b
  unfolding extract
  same_count = node-count (columns b) (kept_part b rs) fits ∙ length-columns b

  module _ (i : ℕ) (l : i < node_count b) where
    pub inside : i < length (columns b)
    inside = rw (length-columns b) l

    pub same_number : kind_number e i ≡ kind_number b i
    unfolding extract
    same_number = kind-back (columns b) (kept_part b rs) fits i inside ∙ ap (λ (c : Column). c.kind_is) (column-at i l)

    pub same_kind : kind e i ≡ kind b i
    unfolding kind
    same_kind = ap kind_of same_number

    pub same-param : param e i ≡ param b i
    unfolding extract
    same-param = param-back (columns b) (kept_part b rs) fits i inside ∙ ap (λ (c : Column). c.param_is) (column-at i l)

    pub same-kids : kids e i ≡ kids b i
    unfolding extract
    same-kids = kids-back (columns b) (kept_part b rs) fits i inside ∙ ap (λ (c : Column). c.kids_are) (column-at i l)

    pub rows-kept : rows e i ≡ length (kept i)
    unfolding extract
    rows-kept = rows_back (columns b) (kept_part b rs) fits i inside ∙ count-marks i l

    pub none-skipped : skip e i ≡ 0
    unfolding extract
    none-skipped = skip-back (columns b) (kept_part b rs) fits i inside

  pub columns-again : columns e ≡ columns b
  unfolding columns
  columns-again = ap (table _) same_count ∙ table-ext _ _ (node_count b) (λ i l. rw (same_number i l, same-param i l, same-kids i l))

  pub same-ancestors : (i : ℕ) → i ≤ node_count b → ancestors e i ≡ ancestors b i
  unfolding ancestors
  same-ancestors zero l = refl
  same-ancestors (suc i) l = rw (same-ancestors i (omega arith), same-kids i l)

  pub same-parent : (i : ℕ) → i ≤ node_count b → parent e i ≡ parent b i
  unfolding parent
  same-parent i l = rw (same-ancestors i l)

  -- ---- runs

  module _ (i : ℕ) (l : i < node_count b) (k : kind b i ≡ Runs) where
    abbrev pub sizes : List ℕ
    sizes = map (group_size b i (kept i)) (kept_runs b i (kept i))

    pub groups-are : (node_at (kept_part b rs) i).values ≡ groups (param b i) sizes
    unfolding kept_node cells
    groups-are = rw (node_at-is i l, k)

    pub total_kept : total sizes (length sizes) ≡ length (kept i)
    unfolding kept_runs
    total_kept = all-shared b i (facts.run_ends i l k) (kept i) (kept-below b rs facts x.picked i l)

    ends-lt : (n : ℕ) → run_start b i n < 256 ^ param b i
    unfolding run_start run_end
    ends-lt zero = one-le-pow (param b i) 256 (lit< tt)
    ends-lt (suc n) = le-lt (param b i) b (first_at b i + param b i * n) x.bytes

    total-lt : total sizes (length sizes) < 256 ^ param b i
    unfolding places
    total-lt = omega (arith, total_kept, (kept-below b rs facts x.picked i l).few, (facts.run_ends i l k).cover, ends-lt (rows b (child i)))

    pub run_end-is : (j : ℕ) → j < length sizes → run_end e i j ≡ total sizes (suc j)
    unfolding extract
    run_end-is j m = end_back (columns b) (kept_part b rs) fits i (inside i l) (param b i) sizes groups-are (same-param i l) total-lt j m

    pub run-start : (j : ℕ) → j ≤ length sizes → run_start e i j ≡ total sizes j
    unfolding extract
    run-start j m = start_back (columns b) (kept_part b rs) fits i (inside i l) (param b i) sizes groups-are (same-param i l) total-lt j m

    pub group-again : (j : ℕ) → j < length sizes → group_size e i (all_rows (rows e i)) j ≡ get_or sizes j 0
    group-again j m =
        group-as e i (all_rows (rows e i)) j (none-skipped i l) (run-start j (omega arith)) (run_end-is j m)
        ∙ ap (λ (n : ℕ). count_if (within 0 (total sizes j) (total sizes (suc j))) (all_rows n)) (rows-kept i l ∙ sym total_kept)
        ∙ between sizes j (total sizes (length sizes)) (total_mono sizes (suc j) (length sizes) m)

    one : OneChild (kind b i)
    one = rw k is.OneChild.runs

    -- the child has a row for each kept run
    pub run-count : rows e (child i) ≡ length sizes
    run-count =
        let under : parent b (child i) ≡ i = facts.shape.under i l one in
        rows-kept (child i) (facts.shape.next i l one)
        ∙ ap length (kept-runs b rs (child i) (omega arith) (ap (kind b) under ∙ k) ∙ ap (λ (p : ℕ). kept_runs b p (kept p)) under)
        ∙ sym (length-map (kept_runs b i (kept i)) (group_size b i (kept i)))

    pub runs-again : kept_runs e i (all_rows (rows e i)) ≡ all_rows (rows e (child i))
    unfolding kept_runs
    runs-again =
        let q = run-count in
        chosen-all _ (rows e (child i))
        (λ j m. lt-ltb 0 (group_size e i (all_rows (rows e i)) j)
        (rw (group-again j (omega arith))
        (some-shared b i (facts.run_ends i l k) (kept i) (kept-below b rs facts x.picked i l) j (omega (arith, length-map (kept_runs b i (kept i)) (group_size b i (kept i)))))))

  -- ---- lists

  module _ (w i : ℕ) (l : i < node_count b) (k : Nests w (kind b i)) where
    abbrev pub lengths : List ℕ
    lengths = map (span_size w b i) (kept i)

    pub spans-are : (node_at (kept_part b rs) i).values ≡ spans w lengths
    unfolding kept_node cells
    spans-are = ap (λ (n : KeptNode). n.values) (node_at-is i l) ∙ go w (kind b i) k
      where
        go : (w : ℕ) (k : Kind) → Nests w k → cells k b i (kept i) ≡ spans w (map (span_size w b i) (kept i))
        go _ _ is.Nests.nested32 = refl
        go _ _ is.Nests.nested64 = refl

    only_child : OneChild (kind b i)
    only_child = only-nested w (kind b i) k

    -- the child has as many rows as the lists together
    child-kept : kept (child i) ≡ kept_spans w b i (kept i)
    child-kept =
        let under : parent b (child i) ≡ i = facts.shape.under i l only_child in
        kept-nested b rs (child i) (omega arith) w (rw under k) ∙ ap (λ (p : ℕ). kept_spans w b p (kept p)) under

    pub child-count : rows e (child i) ≡ total lengths (length (kept i))
    child-count = rows-kept (child i) (facts.shape.next i l only_child) ∙ ap length child-kept ∙ count-spans w b i (kept i)

    pub child-few : total lengths (length (kept i)) ≤ 1_048_576
    unfolding places
    child-few =
        let c : child i < node_count b = facts.shape.next i l only_child in
        omega (arith, child-count, rows-kept (child i) c, (kept-below b rs facts x.picked (child i) c).few, facts.agree.limit (child i) c)

    lengths-lt : total lengths (length lengths) < 256 ^ w
    lengths-lt = go w (kind b i) k
      where
        go : (v : ℕ) (k : Kind) → Nests v k → total lengths (length lengths) < 256 ^ v
        go _ _ is.Nests.nested32 = omega (arith, child-few, ap (total lengths) (length-map (kept i) (span_size w b i)))
        go _ _ is.Nests.nested64 = omega (arith, child-few, ap (total lengths) (length-map (kept i) (span_size w b i)))

    -- offsets count from 0
    pub list-offset : (r : ℕ) → r ≤ length (kept i) → first_number w e i r ≡ total lengths r
    unfolding extract
    list-offset r m = span-back (columns b) (kept_part b rs) fits i (inside i l) w lengths spans-are lengths-lt r (rw (length-map (kept i) (span_size w b i)) m)

    -- and a row is null as it was: each list has as many child rows as before
    list-valid : (r : ℕ) → r < length (kept i) → valid e i r ≡ valid b i (get_or (kept i) r 0)
    unfolding extract kept_node
    list-valid r m =
        valid-back (columns b) (kept_part b rs) fits i (inside i l) r (rw (count-marks i l) m)
        ∙ ap (λ (n : KeptNode). get_or n.marks r false) (node_at-is i l) ∙ get_d_map (valid b i) (kept i) r 0 false m

    pub list_length : (r : ℕ) → r < length (kept i) → span_size w e i r ≡ get_or lengths r 0
    unfolding span_size
    list_length r m =
        rw (list-valid r m, list-offset r (omega arith), list-offset (suc r) m, get_d_map (span_size w b i) (kept i) r 0 0 m) (go (valid b i (get_or (kept i) r 0)) refl)
      where
        from : ℕ
        from = get_or (kept i) r 0

        go : (t : Bool) → valid b i from ≡ t → cond t (total lengths (suc r) - total lengths r) 0 ≡ cond (valid b i from) (first_number w b i (suc from) - first_number w b i from) 0
        go true v = let d : total lengths (suc r) - total lengths r ≡ get_or lengths r 0 = omega (arith, total-more lengths r) in d ∙ get_d_map (span_size w b i) (kept i) r 0 0 m
        go false v = rw v

    pub spans-again : kept_spans w e i (all_rows (rows e i)) ≡ all_rows (rows e (child i))
    spans-again =
        ap (λ (n : ℕ). kept_spans w e i (all_rows n)) (rows-kept i l)
        ∙ spans-follow w e i lengths (length (kept i)) list_length (λ r m. list-offset r (omega arith))
        ∙ ap all_rows (sym child-count)

  -- ---- the kept rows: all of them

  abbrev again : ℕ → List ℕ
  again i = kept_rows e (all_rows (rows e 0)) i

  again-child : (i : ℕ) → 0 < i → i < node_count b → Inner (kind b (parent b i)) → again (parent b i) ≡ all_rows (rows e (parent b i)) → again i ≡ all_rows (rows e i)
  again-child i h l q ih = go q
    where
      p : ℕ
      p = parent b i

      up : p < node_count b
      up = omega (arith, facts.shape.above i h)

      parent_is : parent e i ≡ p
      parent_is = same-parent i (omega arith)

      kind-is : kind e (parent e i) ≡ kind b p
      kind-is = ap (kind e) parent_is ∙ same_kind p up

      above : again (parent e i) ≡ all_rows (rows e p)
      above = ap again parent_is ∙ ih

      go : Inner (kind b p) → again i ≡ all_rows (rows e i)
      go (shared t) =
          kept-shared e (all_rows (rows e 0)) i h (rw kind-is t) ∙ above
          ∙ ap all_rows (rows-kept p up ∙ sym (ap length (kept-shared b rs i h t)) ∙ sym (rows-kept i l))
      go (by_runs t) =
          let one : OneChild (kind b p) = rw t is.OneChild.runs in
          let c : child p ≡ i = sym (facts.shape.only i h l one) in
          kept-runs e (all_rows (rows e 0)) i h (kind-is ∙ t) ∙ ap₂ (kept_runs e) parent_is above ∙ runs-again p up t ∙ ap (λ (n : ℕ). all_rows (rows e n)) c
      go (by_spans w t) =
          let c : child p ≡ i = sym (facts.shape.only i h l (only-nested w (kind b p) t)) in
          kept-nested e (all_rows (rows e 0)) i h w (rw kind-is t) ∙ ap₂ (kept_spans w e) parent_is above ∙ spans-again w p up t ∙ ap (λ (n : ℕ). all_rows (rows e n)) c
      go (is.Inner.carried t) =
          let n : rows e i ≡ length (carried (kept p) (rows b i)) = rows-kept i l ∙ ap length (kept-carried b rs i h t) in
          kept-carried e (all_rows (rows e 0)) i h (rw kind-is t) ∙ ap₂ carried (above ∙ ap all_rows (rows-kept p up)) n ∙ carried-again (kept p) (rows b i)
          ∙ ap all_rows (sym n)

  again-up : (n i : ℕ) → i < n → i < node_count b → again i ≡ all_rows (rows e i)
  again-up zero i h l = absurd (omega arith)
  again-up (suc n) zero h l = kept-root e (all_rows (rows e 0))
  again-up (suc n) (suc i) h l =
      let m = facts.shape.above (suc i) (omega arith) in
      again-child (suc i) (omega arith) l (facts.shape.inner (suc i) (omega arith) l) (again-up n (parent b (suc i)) (omega arith) (omega arith))

  pub rows-again : (i : ℕ) → i < node_count b → kept_rows e (all_rows (rows e 0)) i ≡ all_rows (rows e i)
  rows-again i l = again-up (suc i) i (omega arith) l

  -- ---- what stands in the rows, by kind

  module _ (i : ℕ) (l : i < node_count b) where
    in-journal : table_start b ≤ length b
    in-journal = omega (arith, facts.shape.table)

    -- the w bytes of a kept row, in a buffer that has them for each place
    wide : (w at r : ℕ) → at + w * places b i ≤ table_start b → r < length (kept i) → length (bytes_at b (at + w * (skip b i + get_or (kept i) r 0)) w) ≡ w
    unfolding places
    wide w at r fit m =
        length-bytes b (at + w * (skip b i + get_or (kept i) r 0)) w
        (omega (
          arith,
          in-journal,
          mul-suc w (skip b i + get_or (kept i) r 0),
          mul-le-mul_left w (let h : suc (skip b i + get_or (kept i) r 0) ≤ skip b i + rows b i = omega (arith, (kept-below b rs facts x.picked i l).small r m) in h),
        ))

    -- a column of the extract, asked for row by row
    rows_as : {A : Type 0} (f g : ℕ → A) (d : A) → ((r : ℕ) → r < length (kept i) → f r ≡ get_or (map g (kept i)) r d) → map f (all_rows (rows e i)) ≡ map g (kept i)
    rows_as f g d h = map_rows f (map g (kept i)) d (rows e i) (rows-kept i l ∙ sym (length-map (kept i) g)) (λ r m. h r (rw (rows-kept i l) at m))

    -- the node's share of the kept part, as the writer got it
    pub marks-are : (node_at (kept_part b rs) i).marks ≡ map (valid b i) (kept i)
    unfolding kept_node
    marks-are = ap (λ (k : KeptNode). k.marks) (node_at-is i l)

    pub values-are : (k : Kind) → kind b i ≡ k → (node_at (kept_part b rs) i).values ≡ cells k b i (kept i)
    unfolding kept_node
    values-are k q = ap (λ (k : KeptNode). k.values) (node_at-is i l) ∙ ap (λ (k : Kind). cells k b i (kept i)) q

    pub valid-again : (r : ℕ) → r < length (kept i) → valid e i r ≡ get_or (map (valid b i) (kept i)) r false
    unfolding extract
    valid-again r m =
        valid-back (columns b) (kept_part b rs) fits i (inside i l) r (rw (count-marks i l) m) ∙ ap (λ (vs : List Bool). get_or vs r false) marks-are

    marks-again : map (valid e i) (all_rows (rows e i)) ≡ map (valid b i) (kept i)
    marks-again = rows_as (valid e i) (valid b i) false valid-again

    -- entries of w bytes, in the first buffer and in the second
    module _ (w : ℕ) (v : Cells) (are : (node_at (kept_part b rs) i).values ≡ v) where
      module _ (fit : first_at b i + w * places b i ≤ table_start b) (h : first v ≡ holds (join (map (first_entry w b i) (kept i)))) where
        pub first-wide : (j : ℕ) → j < length (map (first_entry w b i) (kept i)) → length (get_or (map (first_entry w b i) (kept i)) j []) ≡ w
        unfolding first_entry
        first-wide j n =
            let n' : j < length (kept i) = rw (length-map (kept i) (first_entry w b i)) at n in
            ap length (get_d_map (first_entry w b i) (kept i) j 0 [] n') ∙ wide w (first_at b i) j fit n'

        pub first-again : (r : ℕ) → r < length (kept i) → first_entry w e i r ≡ get_or (map (first_entry w b i) (kept i)) r []
        unfolding extract
        first-again r m =
            entries-back (columns b) (kept_part b rs) fits i (inside i l) w (map (first_entry w b i) (kept i)) r (ap first are ∙ h)
            first-wide
            (rw (length-map (kept i) (first_entry w b i)) m)

        firsts-again : map (first_entry w e i) (all_rows (rows e i)) ≡ map (first_entry w b i) (kept i)
        firsts-again = rows_as (first_entry w e i) (first_entry w b i) [] first-again

      module _ (fit : second_at b i + w * places b i ≤ table_start b) (h : second v ≡ holds (join (map (second_entry w b i) (kept i)))) where
        pub second-wide : (j : ℕ) → j < length (map (second_entry w b i) (kept i)) → length (get_or (map (second_entry w b i) (kept i)) j []) ≡ w
        unfolding second_entry
        second-wide j n =
            let n' : j < length (kept i) = rw (length-map (kept i) (second_entry w b i)) at n in
            ap length (get_d_map (second_entry w b i) (kept i) j 0 [] n') ∙ wide w (second_at b i) j fit n'

        pub second-again : (r : ℕ) → r < length (kept i) → second_entry w e i r ≡ get_or (map (second_entry w b i) (kept i)) r []
        unfolding extract
        second-again r m =
            seconds-back (columns b) (kept_part b rs) fits i (inside i l) w (map (second_entry w b i) (kept i)) r (ap second are ∙ h)
            second-wide
            (rw (length-map (kept i) (second_entry w b i)) m)

        seconds-again : map (second_entry w e i) (all_rows (rows e i)) ≡ map (second_entry w b i) (kept i)
        seconds-again = rows_as (second_entry w e i) (second_entry w b i) [] second-again

    flags-again : kind b i ≡ Bits → map (λ r. bit_at e (first_at e i) (skip e i + r)) (all_rows (rows e i)) ≡ map (λ r. bit_at b (first_at b i) (skip b i + r)) (kept i)
    unfolding extract cells
    flags-again q =
        rows_as (λ r. bit_at e (first_at e i) (skip e i + r)) (λ r. bit_at b (first_at b i) (skip b i + r)) false
        (λ r m. flags-back (columns b) (kept_part b rs) fits i (inside i l) (map (λ r. bit_at b (first_at b i) (skip b i + r)) (kept i)) r (values-are Bits q)
        (rw (length-map (kept i) (λ r. bit_at b (first_at b i) (skip b i + r))) m))

    texts-again : (w : ℕ) → pack_limit < 256 ^ w → (node_at (kept_part b rs) i).values ≡ texts w (map (own_bytes w b i) (kept i))
        → map (own_bytes w e i) (all_rows (rows e i)) ≡ map (own_bytes w b i) (kept i)
    unfolding extract
    texts-again w fit are =
        rows_as (own_bytes w e i) (own_bytes w b i) []
        (λ r m. text-back (columns b) (kept_part b rs) fits i (inside i l) w (map (own_bytes w b i) (kept i)) are fit r (rw (length-map (kept i) (own_bytes w b i)) m))

    groups-again : (q : kind b i ≡ Runs) → map (group_size e i (all_rows (rows e i))) (kept_runs e i (all_rows (rows e i))) ≡ sizes i l q
    groups-again q =
        let n = run-count i l q in
        ap (map (group_size e i (all_rows (rows e i)))) (runs-again i l q)
        ∙ map_rows (group_size e i (all_rows (rows e i))) (sizes i l q) 0 (rows e (child i)) n (λ j m. group-again i l q j (omega arith))

    lists-again : (w : ℕ) → Nests w (kind b i) → map (span_size w e i) (all_rows (rows e i)) ≡ map (span_size w b i) (kept i)
    lists-again w q = rows_as (span_size w e i) (span_size w b i) 0 (list_length w i l q)

    -- where the journal's buffers end
    pub first_fits : (k : Kind) → kind b i ≡ k → first_at b i + first_size k (param b i) (places b i) (rows b (child i)) ≤ table_start b
    first_fits k q = rw q at (facts.in_body i l).first

    pub second_fits : (k : Kind) → kind b i ≡ k → second_at b i + second_size k (places b i) (second_length b i) ≤ table_start b
    second_fits k q = rw q at (facts.in_body i l).second

    cells-again : cells (kind e i) e i (all_rows (rows e i)) ≡ cells (kind b i) b i (kept i)
    unfolding cells first second
    cells-again = rw (same_kind i l) (go (kind b i) refl)
      where
        go : (k : Kind) → kind b i ≡ k → cells k e i (all_rows (rows e i)) ≡ cells k b i (kept i)
        go Bits q = ap flags (flags-again q)
        go Native q = rw (same-param i l) (ap entries (firsts-again (param b i) _ (values-are Native q) (first_fits Native q) refl))
        go Fixed q = rw (same-param i l) (ap entries (firsts-again (param b i) _ (values-are Fixed q) (first_fits Fixed q) refl))
        go Bytes32 q = ap (texts 4) (texts-again 4 (lit< tt) (values-are Bytes32 q))
        go Bytes64 q = ap (texts 8) (texts-again 8 (lit< tt) (values-are Bytes64 q))
        go Views q = ap entries (firsts-again 16 _ (values-are Views q) (first_fits Views q) refl)
        go Lists32 q = ap₂ ranges (firsts-again 4 _ (values-are Lists32 q) (first_fits Lists32 q) refl) (seconds-again 4 _ (values-are Lists32 q) (second_fits Lists32 q) refl)
        go Lists64 q = ap₂ ranges (firsts-again 8 _ (values-are Lists64 q) (first_fits Lists64 q) refl) (seconds-again 8 _ (values-are Lists64 q) (second_fits Lists64 q) refl)
        go Runs q = ap₂ groups (same-param i l) (groups-again q)
        go Struct q = refl
        go Union q = ap entries (firsts-again 1 _ (values-are Union q) (omega (arith, first_fits Union q)) refl)
        go Dictionary q = rw (same-param i l) (ap entries (firsts-again (param b i) _ (values-are Dictionary q) (first_fits Dictionary q) refl))
        go Nested32 q = ap (spans 4) (lists-again 4 (rw q is.Nests.nested32))
        go Nested64 q = ap (spans 8) (lists-again 8 (rw q is.Nests.nested64))
        go Unknown q = refl

    node-again : kept_node e i (all_rows (rows e i)) ≡ kept_node b i (kept i)
    unfolding kept_node
    node-again = rw (marks-again, cells-again)

  -- the kept part of the extract, all its rows picked, is the kept part that it was made from
  pub kept_again : kept_part e (all_rows (rows e 0)) ≡ kept_part b rs
  unfolding kept_part
  kept_again =
      ap (table _) same_count
      ∙ table-ext _ _ (node_count b) (λ i l. ap (kept_node e i) (rows-again i l) ∙ node-again i l)

  pub extract-again : extract e (all_rows (rows e 0)) ≡ extract b rs
  unfolding extract
  extract-again = ap₂ write columns-again kept_again
