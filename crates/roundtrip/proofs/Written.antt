-- A pack as the writer put it together, read back: its trailer, its node table and each node's buffers, over any columns and kept nodes. Assumes nothing.
use Prim.Native.Nat.{ℕ, zero, suc, ◌+◌, ◌-◌, ◌*◌, ◌^◌, ◌≤◌, ◌<◌}
use mathlib.Core.Path.{◌≡◌, refl, sym, ap, ap₂, ◌∙◌}
use mathlib.Core.Bool.{Bool, true, false, true≢false}
use mathlib.Core.List.{List, [], ◌∷◌, ◌++◌, append-nil, append_assoc}
use native.Mathlib.Nat.{add-zero, zero-add, add-suc}
use native.Mathlib.Omega.{arith}
use borrow.Author.Tests.{ne_eqb, eq-eqb}
use lib.Dec.{lit<}
use lib.ListN.{length, get_or, length-append}
use Rattle.format.specs.Bytes.{table, join, le, bytes_at, raised, padded, packed}
use Rattle.format.specs.Node.{table_start, node_count, root_rows, mark_of, mark, no_bitmap, field, kind_number, param, rows, skip, kids, validity_at, first_at, second_at, second_length, last_field, has_no_bitmap, valid}
use Rattle.format.specs.Verdict.{pack_limit}
use Rattle.format.specs.Kept.{Column, KeptNode, Cells, flags, entries, texts, ranges, groups, spans, nothing}
use Rattle.format.specs.Write.{Buffer, absent, holds, numbers, with, place, add_node, written, write, nulls, any_null, bitmap, first, second, data_length}
use Rattle.format.proofs.Laws.{join-append, length-table, get_or-table}
use Rattle.format.proofs.NullLaws.{few-nulls}
use Rattle.format.proofs.Measure.{length-padded, length-nodes, length-write, length-packed, length-numbers}
use Rattle.roundtrip.specs.Placed.{Starts, Lies, Fits, after_bitmap, after_first, column_at, node_at, body_at, fields_at}
use Rattle.roundtrip.proofs.Parts.{bytes_left, bytes-right, bytes-front, le-part, le_right, entry-part, number_at, bit-part}

-- ---- what a list starts with

pub starts-all : (xs : List ℕ) → Starts xs xs
starts-all xs = record { rest = []; is = sym (append-nil xs) }

pub starts-then : {xs ys zs : List ℕ} → Starts xs ys → Starts ys zs → Starts xs zs
starts-then {xs} p q = record { rest = p.rest ++ q.rest; is = q.is ∙ ap (◌++ q.rest) p.is ∙ append_assoc xs p.rest q.rest }

pub starts-length : {xs ys : List ℕ} → Starts xs ys → length xs ≤ length ys
starts-length {xs} {ys} p = omega (arith, ap length p.is ∙ length-append xs p.rest)

starts-padded : (xs : List ℕ) → Starts xs (padded xs)
unfolding padded
starts-padded xs = record { rest = _; is = refl }

starts_with : (body : List ℕ) (x : Buffer) → Starts body (with body x)
unfolding with
starts_with body absent = starts-all body
starts_with body (holds x) = starts-then (starts-padded body) (record { rest = x; is = refl })

-- a buffer that was added lies at its place
in-middle : (xs y zs : List ℕ) → bytes_at ((xs ++ y) ++ zs) (length xs) (length y) ≡ y
in-middle xs y zs =
    rw append_assoc
    (ap (λ (n : ℕ). bytes_at (xs ++ (y ++ zs)) n (length y)) (sym (add-zero (length xs))) ∙ bytes-right xs (y ++ zs) 0 (length y) ∙ bytes-front y zs)

pub added : (rest : ℕ) (body : List ℕ) (f : Buffer) (x b : List ℕ) (end : ℕ) → f ≡ holds x → Starts (with body f) b → length (with body f) ≤ end
    → Lies b end (place rest body f) x
unfolding with place
added rest body absent x b end e s l = let z : ◌≡◌ {A = ℕ} 0 1 = cc in absurd (omega arith)
added rest body (holds y) x b end e s l =
    let q : y ≡ x = cc in
    rw (← q)
    (record {
      bytes = rw (← length-padded body, s.is) (in-middle (padded body) y s.rest);
      inside = omega (arith, length-append (padded body) y, length-padded body);
    })

-- an absent one has its resting value
pub unplaced : (rest : ℕ) (body : List ℕ) (f : Buffer) → f ≡ absent → place rest body f ≡ rest
unfolding place
unplaced rest body absent e = refl
unplaced rest body (holds y) e = let z : ◌≡◌ {A = ℕ} 0 1 = cc in absurd (omega arith)

placed-lt : (rest : ℕ) (body : List ℕ) (f : Buffer) (n : ℕ) → rest < n → length (with body f) < n → place rest body f < n
unfolding with place
placed-lt rest body absent n h l = h
placed-lt rest body (holds y) n h l = omega (arith, length-append (padded body) y, length-padded body)

data_length-lt : (body : List ℕ) (v : Cells) → data_length v ≤ length (with body (second v))
unfolding data_length with second
data_length-lt body (flags bs) = omega arith
data_length-lt body (entries es) = omega arith
data_length-lt body (texts w ts) = omega (arith, length-append (padded body) (join ts))
data_length-lt body (ranges os ss) = omega arith
data_length-lt body (groups w sizes) = omega arith
data_length-lt body (spans w sizes) = omega arith
data_length-lt body nothing = omega arith

-- where no row is null, each is valid
no-null : (vs : List Bool) (r : ℕ) → any_null vs ≡ false → r < length vs → get_or vs r false ≡ true
unfolding any_null
no-null [] r e h = absurd (omega arith)
no-null (true ∷ vs) zero e h = refl
no-null (true ∷ vs) (suc r) e h = no-null vs r e (omega arith)
no-null (false ∷ vs) r e h = absurd (true≢false e)

module _ (cs : List Column) (ks : List KeptNode) where
  -- the body of the first nodes stays as it is
  starts_more : (i : ℕ) → Starts (after_first (node_at ks i) (body_at cs ks i)) (body_at cs ks (suc i))
  unfolding written add_node
  starts_more i = starts_with _ _

  starts_first : (i : ℕ) → Starts (after_bitmap (node_at ks i) (body_at cs ks i)) (after_first (node_at ks i) (body_at cs ks i))
  starts_first i = starts_with _ _

  starts-bitmap : (i : ℕ) → Starts (body_at cs ks i) (after_bitmap (node_at ks i) (body_at cs ks i))
  starts-bitmap i = starts_with _ _

  starts-body : (i d : ℕ) → Starts (body_at cs ks i) (body_at cs ks (i + d))
  starts-body i zero = rw add-zero (starts-all _)
  starts-body i (suc d) =
      rw add-suc
      (starts-then (starts-body i d) (starts-then (starts-bitmap (i + d)) (starts-then (starts_first (i + d)) (starts_more (i + d)))))

  -- the table is the fields of each node, one after the other
  abbrev row_of : ℕ → List ℕ
  row_of i = numbers 4 (fields_at cs ks i)

  nodes-are : (n : ℕ) → (written cs ks n).nodes ≡ join (table row_of n)
  unfolding written add_node table join
  nodes-are zero = refl
  nodes-are (suc n) = ap₂ ◌++◌ (nodes-are n) (sym (append-nil (row_of n))) ∙ sym (join-append (table row_of n) (row_of n ∷ []))

  -- the whole: the padded body, the table, the trailer
  abbrev body_of : List ℕ
  body_of = body_at cs ks (length cs)

  abbrev table_of : List ℕ
  table_of = (written cs ks (length cs)).nodes

  abbrev trailer_of : List ℕ
  trailer_of = raised (length body_of) ∷ length cs ∷ length (node_at ks 0).marks ∷ mark ∷ []

  write-is : write cs ks ≡ padded body_of ++ table_of ++ numbers 4 trailer_of
  unfolding write
  write-is = refl

  starts-write : Starts body_of (write cs ks)
  starts-write = starts-then (starts-padded body_of) (record { rest = table_of ++ numbers 4 trailer_of; is = write-is ∙ append_assoc (padded body_of) table_of (numbers 4 trailer_of) })

  module _ (fits : Fits cs ks) where
    pub limit : raised (length body_of) + 40 * length cs + 16 ≤ pack_limit
    limit = rw (← length-write cs ks) fits.size

    body-short : length body_of ≤ raised (length body_of)
    unfolding raised
    body-short = omega arith

    -- the trailer
    trailer-at : (k at : ℕ) → k < 4 → at ≡ length (write cs ks) - 16 + 4 * k → get_or trailer_of k 0 < 256 ^ 4 → le 4 (write cs ks) at ≡ get_or trailer_of k 0
    trailer-at k at h e s =
        let front : length (padded body_of ++ table_of) ≡ raised (length body_of) + 40 * length cs =
        length-append (padded body_of) table_of ∙ ap₂ ◌+◌ (length-padded body_of) (length-nodes cs ks (length cs)) in
        let place : at ≡ length (padded body_of ++ table_of) + 4 * k = omega (arith, length-write cs ks) in
        rw (place, write-is, le_right 4 (padded body_of ++ table_of) (numbers 4 trailer_of) (4 * k)) (number_at 4 trailer_of k h s)

    pub table-start : table_start (write cs ks) ≡ raised (length body_of)
    unfolding table_start
    table-start = trailer-at 0 (length (write cs ks) - 16) (lit< tt) (omega arith) (omega (arith, limit))

    pub node-count : node_count (write cs ks) ≡ length cs
    unfolding node_count
    node-count = trailer-at 1 (length (write cs ks) - 12) (lit< tt) (omega (arith, length-write cs ks)) (omega (arith, limit))

    pub root-rows : root_rows (write cs ks) ≡ length (node_at ks 0).marks
    unfolding root_rows
    root-rows = trailer-at 2 (length (write cs ks) - 8) (lit< tt) (omega (arith, length-write cs ks)) (fits.rows 0 fits.some)

    pub mark-is : mark_of (write cs ks) ≡ mark
    unfolding mark_of
    mark-is = trailer-at 3 (length (write cs ks) - 4) (lit< tt) (omega (arith, length-write cs ks)) (lit< tt)

    -- the node table
    module _ (i : ℕ) (h : i < length cs) where
      after-node : Starts (body_at cs ks (suc i)) (write cs ks)
      after-node =
          let e : length cs ≡ suc i + (length cs - suc i) = omega arith in
          starts-then (rw (← e) at (starts-body (suc i) (length cs - suc i))) starts-write

      row_is : bytes_at table_of (40 * i) 40 ≡ row_of i
      row_is =
          let wide : (j : ℕ) → j < length (table row_of (length cs)) → length (get_or (table row_of (length cs)) j []) ≡ 40 =
          λ j l. ap length (get_or-table row_of (length cs) j [] (rw (length-table row_of (length cs)) at l)) ∙ length-numbers 4 (fields_at cs ks j) in
          ap (λ (l : List ℕ). bytes_at l (40 * i) 40) (nodes-are (length cs))
          ∙ entry-part 40 (table row_of (length cs)) wide i (rw (length-table row_of (length cs)) h)
          ∙ get_or-table row_of (length cs) i [] h

      field_at : (k : ℕ) → k < 10 → get_or (fields_at cs ks i) k 0 < 256 ^ 4 → field k (write cs ks) i ≡ get_or (fields_at cs ks i) k 0
      unfolding field
      field_at k l s =
          let at : table_start (write cs ks) + 40 * i + 4 * k ≡ length (padded body_of) + (40 * i + 4 * k) = omega (arith, table-start, length-padded body_of) in
          let room : 40 * i + 40 ≤ length table_of = omega (arith, length-nodes cs ks (length cs)) in
          ap (le 4 (write cs ks)) at
          ∙ ap (λ (b : List ℕ). le 4 b (length (padded body_of) + (40 * i + 4 * k))) (write-is ∙ append_assoc (padded body_of) table_of (numbers 4 trailer_of))
          ∙ le_right 4 (padded body_of) (table_of ++ numbers 4 trailer_of) (40 * i + 4 * k)
          ∙ sym (le-part (table_of ++ numbers 4 trailer_of) (40 * i) 40 (4 * k) 4 (omega arith))
          ∙ ap (λ (b : List ℕ). le 4 b (4 * k)) (bytes_left table_of (numbers 4 trailer_of) (40 * i) 40 room ∙ row_is)
          ∙ number_at 4 (fields_at cs ks i) k l s

      -- each of the ten fields
      node-limit : length (body_at cs ks (suc i)) < 256 ^ 4
      node-limit =
          let e : length cs ≡ suc i + (length cs - suc i) = omega arith in
          omega (arith, starts-length (rw (← e) at (starts-body (suc i) (length cs - suc i))), body-short, limit)

      pub kind-back : kind_number (write cs ks) i ≡ (column_at cs i).kind_is
      unfolding kind_number
      kind-back = field_at 0 (lit< tt) (fits.kinds i h)

      pub param-back : param (write cs ks) i ≡ (column_at cs i).param_is
      unfolding param
      param-back = field_at 1 (lit< tt) (fits.params i h)

      pub rows_back : rows (write cs ks) i ≡ length (node_at ks i).marks
      unfolding rows
      rows_back = field_at 2 (lit< tt) (fits.rows i h)

      pub skip-back : skip (write cs ks) i ≡ 0
      unfolding skip
      skip-back = field_at 3 (lit< tt) (lit< tt)

      pub kids-back : kids (write cs ks) i ≡ (column_at cs i).kids_are
      unfolding kids
      kids-back = field_at 4 (lit< tt) (fits.kids i h)

      pub validity-back : validity_at (write cs ks) i ≡ place no_bitmap (body_at cs ks i) (bitmap (node_at ks i).marks)
      unfolding validity_at
      validity-back =
          field_at 5 (lit< tt)
          (placed-lt no_bitmap _ (bitmap (node_at ks i).marks) (256 ^ 4) (lit< tt) (omega (arith, node-limit, starts-length (starts_first i), starts-length (starts_more i))))

      pub first_back : first_at (write cs ks) i ≡ place 0 (after_bitmap (node_at ks i) (body_at cs ks i)) (first (node_at ks i).values)
      unfolding first_at
      first_back = field_at 6 (lit< tt) (placed-lt 0 _ (first (node_at ks i).values) (256 ^ 4) (lit< tt) (omega (arith, node-limit, starts-length (starts_more i))))

      pub second_back : second_at (write cs ks) i ≡ place 0 (after_first (node_at ks i) (body_at cs ks i)) (second (node_at ks i).values)
      unfolding second_at written add_node
      second_back = field_at 7 (lit< tt) (placed-lt 0 _ (second (node_at ks i).values) (256 ^ 4) (lit< tt) node-limit)

      pub length_back : second_length (write cs ks) i ≡ data_length (node_at ks i).values
      unfolding second_length written add_node
      length_back =
          field_at 8 (lit< tt) (omega (arith, node-limit, data_length-lt (after_first (node_at ks i) (body_at cs ks i)) (node_at ks i).values))

      pub last-back : last_field (write cs ks) i ≡ nulls (node_at ks i).marks
      unfolding last_field
      last-back = field_at 9 (lit< tt) (omega (arith, few-nulls (node_at ks i).marks, fits.rows i h))

      -- the three buffers, each at its place before the table
      node-inside : length (body_at cs ks (suc i)) ≤ table_start (write cs ks)
      node-inside =
          let e : length cs ≡ suc i + (length cs - suc i) = omega arith in
          omega (arith, starts-length (rw (← e) at (starts-body (suc i) (length cs - suc i))), body-short, table-start)

      pub bitmap-lies : (x : List ℕ) → bitmap (node_at ks i).marks ≡ holds x → Lies (write cs ks) (table_start (write cs ks)) (validity_at (write cs ks) i) x
      bitmap-lies x e =
          rw validity-back
          (added no_bitmap (body_at cs ks i) (bitmap (node_at ks i).marks) x _ _ e (starts-then (starts_first i) (starts-then (starts_more i) after-node))
          (omega (arith, node-inside, starts-length (starts_first i), starts-length (starts_more i))))

      pub first-lies : (x : List ℕ) → first (node_at ks i).values ≡ holds x → Lies (write cs ks) (table_start (write cs ks)) (first_at (write cs ks) i) x
      first-lies x e =
          rw first_back
          (added 0 (after_bitmap (node_at ks i) (body_at cs ks i)) (first (node_at ks i).values) x _ _ e (starts-then (starts_more i) after-node)
          (omega (arith, node-inside, starts-length (starts_more i))))

      pub second-lies : (x : List ℕ) → second (node_at ks i).values ≡ holds x → Lies (write cs ks) (table_start (write cs ks)) (second_at (write cs ks) i) x
      unfolding written add_node
      second-lies x e =
          rw second_back (added 0 (after_first (node_at ks i) (body_at cs ks i)) (second (node_at ks i).values) x _ _ e after-node node-inside)

      -- what is not there
      pub no-bitmap : bitmap (node_at ks i).marks ≡ absent → validity_at (write cs ks) i ≡ no_bitmap
      no-bitmap e = validity-back ∙ unplaced no_bitmap (body_at cs ks i) (bitmap (node_at ks i).marks) e

      pub no-first : first (node_at ks i).values ≡ absent → first_at (write cs ks) i ≡ 0
      no-first e = first_back ∙ unplaced 0 _ (first (node_at ks i).values) e

      pub no_second : second (node_at ks i).values ≡ absent → second_at (write cs ks) i ≡ 0
      no_second e = second_back ∙ unplaced 0 _ (second (node_at ks i).values) e

      -- a bitmap that is there has a place, and so the rows' marks are read back
      pub some-bitmap : (x : List ℕ) → bitmap (node_at ks i).marks ≡ holds x → has_no_bitmap (write cs ks) i ≡ false
      unfolding has_no_bitmap
      some-bitmap x e = ne_eqb (validity_at (write cs ks) i) no_bitmap (λ q. omega (arith, (bitmap-lies x e).inside, table-start, limit))

      pub valid-back : (r : ℕ) → r < length (node_at ks i).marks → valid (write cs ks) i r ≡ get_or (node_at ks i).marks r false
      unfolding bitmap valid has_no_bitmap
      valid-back r l = go (any_null (node_at ks i).marks) refl
        where
          go : (t : Bool) → any_null (node_at ks i).marks ≡ t → valid (write cs ks) i r ≡ get_or (node_at ks i).marks r false
          go true e =
              let m : bitmap (node_at ks i).marks ≡ holds (packed (node_at ks i).marks) = rw e in
              rw (some-bitmap _ m, skip-back, zero-add)
              (bit-part (write cs ks) (validity_at (write cs ks) i) (node_at ks i).marks r (rw (length-packed (node_at ks i).marks) at (bitmap-lies _ m).bytes) l)
          go false e =
              let m : bitmap (node_at ks i).marks ≡ absent = rw e in
              rw (eq-eqb _ _ (no-bitmap m)) (sym (no-null (node_at ks i).marks r e l))
