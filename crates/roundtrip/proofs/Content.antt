-- Refusal 8 is false of an extract: rebuilt offsets and run ends rise as they must, and what is copied from an accepted row is as right as it was. Assumes nothing.
use Prim.Native.Nat.{ℕ, zero, suc, ◌+◌, ◌-◌, ◌*◌, ◌^◌, ◌≤◌, ◌<◌}
use mathlib.Core.Path.{◌≡◌, refl, sym, ap, ◌∙◌}
use mathlib.Core.Bool.{Bool, true, false, cond, not, ◌&&◌, and-false}
use mathlib.Core.List.{List, [], ◌∷◌, map}
use native.Mathlib.Nat.{add-zero, add_assoc, one-le-pow}
use native.Mathlib.Decide.{dec_lt, dec_le}
use native.Mathlib.Omega.{arith}
use borrow.Author.Tests.{le-ltb, lt-ltb, lt-leb, eq-eqb}
use lib.Dec.{eqb, leb, ltb, lit<}
use lib.ListN.{length, get_or, length-map}
use Rattle.format.specs.declared.Kind.{Kind}
use Rattle.format.specs.declared.Kind.TheVariants.{Bits, Native, Fixed, Bytes32, Bytes64, Views, Lists32, Lists64, Runs, Struct, Union, Dictionary, Nested32, Nested64, Unknown}
use Rattle.format.specs.Bytes.{table, any_below, le, negative, join, bytes_at}
use Rattle.format.specs.Node.{table_start, node_count, kind, param, rows, skip, kids, first_at, second_at, second_length, valid, places, parent, child, data_buffer, first_number, second_number, run_end, run_start}
use Rattle.format.specs.Verdict.{pack_limit, wrong_content, bad_content, bad_offsets, bad_view, bad_long, bad_short, bad_range, bad_runs, view_field, view_data}
use Rattle.format.specs.Kept.{texts, columns, cells, kept_part, kept_rows, kept_runs, group_size, carried, first_entry, second_entry, own_bytes}
use Rattle.format.specs.Write.{holds, total, first, second, data_length, extract}
use Rattle.format.specs.Accepted.{OneChild, Carries, Nests, DataBuffer, ViewLies}
use Rattle.format.specs.Accepted as is
use Rattle.format.proofs.Laws.{none_any, length-table, get_or-table}
use Rattle.format.proofs.Numbers.{sum-ext}
use Rattle.roundtrip.specs.Back.{Extracted}
use Rattle.roundtrip.proofs.Parts.{get_d_map, get_d_part, le-part, total-join, total-more}
use Rattle.roundtrip.proofs.Cells.{total_mono, offset-back, data-short}
use Rattle.roundtrip.proofs.Rows.{kept-carried, kept-below, some-shared}
use Rattle.roundtrip.proofs.Again.{facts, fits, inside, same_kind, same-param, same-kids, rows-kept, valid-again, values-are, first-again, second-again, first_fits, second_fits, sizes, run-count, run_end-is, run-start, total_kept, lengths, child-count, child-few, list-offset}
use Rattle.roundtrip.proofs.Shape.{or-none, each-node, places-kept, length-is}

-- the numbers of an entry
number_of : (w : ℕ) (b : List ℕ) (at : ℕ) → le w b at ≡ le w (bytes_at b at w) 0
number_of w b at = ap (le w b) (sym (add-zero at)) ∙ sym (le-part b at w 0 w (omega arith))

entry-number : (w : ℕ) (b : List ℕ) (i r : ℕ) → first_number w b i r ≡ le w (first_entry w b i r) 0
unfolding first_number first_entry
entry-number w b i r = number_of w b (first_at b i + w * (skip b i + r))

second-number : (w : ℕ) (b : List ℕ) (i r : ℕ) → second_number w b i r ≡ le w (second_entry w b i r) 0
unfolding second_number second_entry
second-number w b i r = number_of w b (second_at b i + w * (skip b i + r))

-- a byte behind a view's length, and a byte of a data buffer
view-byte : (k : ℕ) (b : List ℕ) (i r : ℕ) → k < 12 → get_or b (first_at b i + 16 * (skip b i + r) + 4 + k) 0 ≡ get_or (first_entry 16 b i r) (4 + k) 0
unfolding first_entry
view-byte k b i r h =
    ap (λ (n : ℕ). get_or b n 0) (add_assoc (first_at b i + 16 * (skip b i + r)) 4 k) ∙ sym (get_d_part b (first_at b i + 16 * (skip b i + r)) 16 (4 + k) (omega arith))

data-entry : (b : List ℕ) (d k : ℕ) → get_or b (first_at b d + skip b d + k) 0 ≡ get_or (first_entry 1 b d k) 0 0
unfolding first_entry
data-entry b d k =
    let at : first_at b d + skip b d + k ≡ first_at b d + 1 * (skip b d + k) + 0 = omega arith in
    ap (λ (n : ℕ). get_or b n 0) at ∙ sym (get_d_part b (first_at b d + 1 * (skip b d + k)) 1 0 (lit< tt))

-- four bytes that are the same are one number
same_number : (a b : List ℕ) (at place : ℕ) → ((j : ℕ) → j < 4 → get_or a (at + j) 0 ≡ get_or b (place + j) 0) → le 4 a at ≡ le 4 b place
unfolding le
same_number a b at place h = sum-ext _ _ 4 (λ j l. ap (◌* 256 ^ j) (h j l))

view-field : (k : ℕ) (b : List ℕ) (i r : ℕ) → k < 4 → view_field k b i r ≡ le 4 (first_entry 16 b i r) (4 * k)
unfolding view_field first_entry
view-field k b i r h = sym (le-part b (first_at b i + 16 * (skip b i + r)) 16 (4 * k) 4 (omega arith))

positive : (w n : ℕ) → n < 2 ^ (8 * w - 1) → negative w n ≡ false
unfolding negative
positive w n h = lt-leb (2 ^ (8 * w - 1)) n h

module _ {b rs : List ℕ} (x : Extracted b rs) where
  abbrev e : List ℕ
  e = extract b rs

  -- a carried child of a node that keeps a row has all its rows
  carried_some : (rs : List ℕ) (n r : ℕ) → r < length rs → length (carried rs n) ≡ n
  unfolding carried
  carried_some [] n r h = absurd (omega arith)
  carried_some (y ∷ ys) n r h = length-table (λ k. k) n

  carried-all : (rs : List ℕ) (n r : ℕ) → r < length rs → carried rs n ≡ table (λ k. k) n
  unfolding carried
  carried-all [] n r h = absurd (omega arith)
  carried-all (y ∷ ys) n r h = refl

  -- a data buffer that is carried has the bytes that it had
  data-byte : (d k : ℕ) (l : d < node_count b) → kind b d ≡ Native → param b d ≡ 1 → kept_rows b rs d ≡ table (λ k. k) (rows b d) → k < rows b d
      → get_or e (first_at e d + skip e d + k) 0 ≡ get_or b (first_at b d + skip b d + k) 0
  unfolding cells first
  data-byte d k l q p whole m =
      let n : k < length (kept_rows b rs d) = rw (whole, length-table (λ (k : ℕ). k) (rows b d)) m in
      let fit : first_at b d + 1 * places b d ≤ table_start b = rw p at (first_fits x d l Native q) in
      let held : first (cells Native b d (kept_rows b rs d)) ≡ holds (join (map (first_entry 1 b d) (kept_rows b rs d))) = rw p in
      let same : get_or (kept_rows b rs d) k 0 ≡ k = ap (λ (ks : List ℕ). get_or ks k 0) whole ∙ get_or-table (λ k. k) (rows b d) k 0 m in
      data-entry e d k
      ∙ ap (λ (y : List ℕ). get_or y 0 0)
      (first-again x d l 1 _ (values-are x d l Native q) fit held k n ∙ get_d_map (first_entry 1 b d) (kept_rows b rs d) k 0 [] n ∙ ap (first_entry 1 b d) same)
      ∙ sym (data-entry b d k)

  carried-whole : (i c r : ℕ) → 0 < c → c < node_count b → parent b c ≡ i → Carries (kind b i) → r < length (kept_rows b rs i) → rows e c ≡ rows b c
  carried-whole i c r h m p k l =
      rows-kept x c m ∙ ap length (kept-carried b rs c h (rw p k)) ∙ carried_some (kept_rows b rs (parent b c)) (rows b c) r (rw p l)

  rows_few : (c : ℕ) → c < node_count b → rows b c ≤ 1_048_576
  unfolding places
  rows_few c m = omega (arith, (facts x).agree.limit c m)

  module _ (i : ℕ) (l : i < node_count b) where
    abbrev kept : List ℕ
    kept = kept_rows b rs i

    -- the row from which kept row r was copied
    abbrev from : ℕ → ℕ
    from r = get_or kept r 0

    from-below : (r : ℕ) → r < length kept → from r < rows b i
    from-below r m = (kept-below b rs (facts x) x.picked i l).small r m

    -- each row of the extract
    each_row : (p : ℕ → Bool) → ((r : ℕ) → r < length kept → p r ≡ false) → any_below p (rows e i) ≡ false
    each_row p h = none_any p (rows e i) (λ r m. h r (rw (rows-kept x i l) at m))

    -- entries copied
    module _ (w : ℕ) (k : Kind) (q : kind b i ≡ k) (r : ℕ) (m : r < length kept) where
      entry-copied : first_at b i + w * places b i ≤ table_start b → first (cells k b i kept) ≡ holds (join (map (first_entry w b i) kept)) → first_entry w e i r ≡ first_entry w b i (from r)
      entry-copied fit h = first-again x i l w _ (values-are x i l k q) fit h r m ∙ get_d_map (first_entry w b i) kept r 0 [] m

      first-copied : first_at b i + w * places b i ≤ table_start b → first (cells k b i kept) ≡ holds (join (map (first_entry w b i) kept)) → first_number w e i r ≡ first_number w b i (from r)
      first-copied fit h = entry-number w e i r ∙ ap (λ (y : List ℕ). le w y 0) (entry-copied fit h) ∙ sym (entry-number w b i (from r))

      second-copied : second_at b i + w * places b i ≤ table_start b → second (cells k b i kept) ≡ holds (join (map (second_entry w b i) kept)) → second_number w e i r ≡ second_number w b i (from r)
      second-copied fit h =
          second-number w e i r
          ∙ ap (λ (y : List ℕ). le w y 0) (second-again x i l w _ (values-are x i l k q) fit h r m ∙ get_d_map (second_entry w b i) kept r 0 [] m)
          ∙ sym (second-number w b i (from r))

    -- offsets rebuilt
    module _ (w : ℕ) (k : Kind) (q : kind b i ≡ k) (are : cells k b i kept ≡ texts w (map (own_bytes w b i) kept)) (wide : pack_limit < 256 ^ w) (signed : pack_limit < 2 ^ (8 * w - 1)) where
      abbrev own : List (List ℕ)
      own = map (own_bytes w b i) kept

      offset-is : (r : ℕ) → r ≤ length kept → first_number w e i r ≡ total (map length own) r
      unfolding extract
      offset-is r m =
          offset-back (columns b) (kept_part b rs) (fits x) i (inside x i l) w own (values-are x i l k q ∙ are) wide r (rw (length-map kept (own_bytes w b i)) m)

      offset-small : (r : ℕ) → r ≤ length kept → total (map length own) r ≤ pack_limit
      unfolding extract
      offset-small r m =
          omega (
            arith,
            total_mono (map length own) r (length own) (rw (length-map kept (own_bytes w b i)) m),
            total-join own,
            data-short (columns b) (kept_part b rs) (fits x) i (inside x i l) w own (values-are x i l k q ∙ are) wide,
          )

      offset-positive : (r : ℕ) → r ≤ length kept → negative w (first_number w e i r) ≡ false
      offset-positive r m = positive w (first_number w e i r) (omega (arith, offset-is r m, offset-small r m))

      offset-rises : (r : ℕ) → r < length kept → ltb (first_number w e i (suc r)) (first_number w e i r) ≡ false
      offset-rises r m =
          le-ltb (first_number w e i (suc r)) (first_number w e i r) (omega (arith, offset-is r (omega arith), offset-is (suc r) m, total-more (map length own) r))

      offset-last : ltb (second_length e i) (first_number w e i (rows e i)) ≡ false
      unfolding data_length
      offset-last =
          rw (rows-kept x i l)
          (le-ltb (second_length e i) (first_number w e i (length kept))
          (omega (arith, offset-is (length kept) (omega arith), ap (total (map length own)) (length-map kept (own_bytes w b i)), total-join own, length-is x i l k q ∙ ap data_length are)))

      offsets-right : bad_offsets w (second_length e i) e i ≡ false
      unfolding bad_offsets
      offsets-right =
          or-none (or-none (offset-positive 0 (omega arith)) (each_row _ (λ r m. or-none (offset-positive (suc r) m) (offset-rises r m)))) offset-last

    -- offsets of lists rebuilt
    module _ (w : ℕ) (k : Nests w (kind b i)) (signed : 1_048_576 < 2 ^ (8 * w - 1)) where
      list-few : (r : ℕ) → r ≤ length kept → total (lengths x w i l k) r ≤ 1_048_576
      list-few r m = omega (arith, total_mono (lengths x w i l k) r (length kept) m, child-few x w i l k)

      list-positive : (r : ℕ) → r ≤ length kept → negative w (first_number w e i r) ≡ false
      list-positive r m = positive w (first_number w e i r) (omega (arith, list-offset x w i l k r m, list-few r m))

      list-rises : (r : ℕ) → r < length kept → ltb (first_number w e i (suc r)) (first_number w e i r) ≡ false
      list-rises r m =
          le-ltb (first_number w e i (suc r)) (first_number w e i r)
          (omega (arith, list-offset x w i l k r (omega arith), list-offset x w i l k (suc r) m, total-more (lengths x w i l k) r))

      list-last : ltb (rows e (child i)) (first_number w e i (rows e i)) ≡ false
      list-last =
          rw (rows-kept x i l)
          (le-ltb (rows e (child i)) (first_number w e i (length kept)) (omega (arith, list-offset x w i l k (length kept) (omega arith), child-count x w i l k)))

      lists-right : bad_offsets w (rows e (child i)) e i ≡ false
      unfolding bad_offsets
      lists-right = or-none (or-none (list-positive 0 (omega arith)) (each_row _ (λ r m. or-none (list-positive (suc r) m) (list-rises r m)))) list-last

    -- views copied
    module _ (q : kind b i ≡ Views) (r : ℕ) (m : r < length kept) where
      field-copied : (k : ℕ) → k < 4 → view_field k e i r ≡ view_field k b i (from r)
      unfolding cells first
      field-copied k h =
          view-field k e i r h ∙ ap (λ (y : List ℕ). le 4 y (4 * k)) (entry-copied 16 Views q r m (first_fits x i l Views q) refl) ∙ sym (view-field k b i (from r) h)

      lies : ViewLies b i (from r)
      lies = (facts x).views i (from r) l q (from-below r m)

      byte-copied : (k : ℕ) → k < 12 → get_or e (first_at e i + 16 * (skip e i + r) + 4 + k) 0 ≡ get_or b (first_at b i + 16 * (skip b i + from r) + 4 + k) 0
      unfolding cells first
      byte-copied k h =
          view-byte k e i r h ∙ ap (λ (y : List ℕ). get_or y (4 + k) 0) (entry-copied 16 Views q r m (first_fits x i l Views q) refl) ∙ sym (view-byte k b i (from r) h)

      car : Carries (kind b i)
      car = rw q is.Carries.views

      -- a long view: its data buffer is carried, and so the prefix is as true as it was
      module _ (long : 12 < view_field 0 b i (from r)) where
        buffer : ℕ
        buffer = data_buffer i (view_field 2 b i (from r))

        is-buffer : DataBuffer b i (view_field 2 b i (from r))
        is-buffer = (facts x).shape.buffers i (view_field 2 b i (from r)) l q (lies.names long)

        buffer-whole : kept_rows b rs buffer ≡ table (λ k. k) (rows b buffer)
        unfolding buffer
        buffer-whole =
            kept-carried b rs buffer (omega arith) (rw is-buffer.under car) ∙ carried-all (kept_rows b rs (parent b buffer)) (rows b buffer) r (rw is-buffer.under m)

        prefix_same : le 4 e (view_data e i r) ≡ le 4 b (view_data b i (from r))
        unfolding view_data buffer
        prefix_same =
            rw (field-copied 2 (lit< tt), field-copied 3 (lit< tt))
            (same_number e b _ _
            (λ j h. ap (λ (n : ℕ). get_or e n 0) (add_assoc _ (view_field 3 b i (from r)) j)
            ∙ data-byte buffer (view_field 3 b i (from r) + j) is-buffer.inside is-buffer.plain is-buffer.width buffer-whole (omega (arith, lies.inside long))
            ∙ ap (λ (n : ℕ). get_or b n 0) (sym (add_assoc _ (view_field 3 b i (from r)) j))))

        long-right : bad_long e i r ≡ false
        unfolding bad_long buffer
        long-right =
            rw (field-copied 0 (lit< tt), field-copied 1 (lit< tt), field-copied 2 (lit< tt), field-copied 3 (lit< tt), same-kids x i l, prefix_same)
            (or-none
            (or-none (lt-leb (kids b i) _ (lies.names long))
            (rw (carried-whole i buffer r (omega arith) is-buffer.inside is-buffer.under car m) (le-ltb (rows b buffer) _ (lies.inside long))))
            (ap not (eq-eqb _ _ (lies.prefix long))))

      short-right : bad_short e i r ≡ false
      unfolding bad_short
      short-right =
          rw (field-copied 0 (lit< tt))
          (none_any _ 12 (λ k h. rw (byte-copied k h) (go k h (dec_le (view_field 0 b i (from r)) k))))
        where
          go : (k : ℕ) → k < 12 → Dec (view_field 0 b i (from r) ≤ k)
              → (leb (view_field 0 b i (from r)) k && not (eqb (get_or b (first_at b i + 16 * (skip b i + from r) + 4 + k) 0) 0)) ≡ false
          go k h (yes a) = rw (eq-eqb _ 0 (lies.unused k a h)) (and-false (leb (view_field 0 b i (from r)) k))
          go k h (no a) = rw (lt-leb (view_field 0 b i (from r)) k (omega arith))

      view-right : bad_view e i r ≡ false
      unfolding bad_view
      view-right =
          rw (field-copied 0 (lit< tt)) (or-none (positive 4 (view_field 0 b i (from r)) lies.short) (go (dec_lt 12 (view_field 0 b i (from r)))))
        where
          go : Dec (12 < view_field 0 b i (from r)) → cond (ltb 12 (view_field 0 b i (from r))) (bad_long e i r) (bad_short e i r) ≡ false
          go (yes d) = rw (lt-ltb 12 (view_field 0 b i (from r)) d) (long-right d)
          go (no d) = rw (le-ltb 12 (view_field 0 b i (from r)) (omega arith)) short-right

    -- list views copied
    range-right : (w : ℕ) (r : ℕ) → r < length kept → 1_048_576 < 2 ^ (8 * w - 1) → OneChild (kind b i) → Carries (kind b i)
        → first_number w e i r ≡ first_number w b i (from r) → second_number w e i r ≡ second_number w b i (from r)
        → first_number w b i (from r) + second_number w b i (from r) ≤ rows b (child i) → bad_range w e i r ≡ false
    unfolding bad_range
    range-right w r m big one car f g fit =
        let under = (facts x).shape.next i l one in
        let few = rows_few (child i) under in
        rw (f, g, carried-whole i (child i) r (omega arith) under ((facts x).shape.under i l one) car m)
        (or-none (or-none (positive w (first_number w b i (from r)) (omega arith)) (positive w (second_number w b i (from r)) (omega arith))) (le-ltb (rows b (child i)) _ fit))

    -- run ends rebuilt
    module _ (q : kind b i ≡ Runs) where
      ends-signed : (n : ℕ) → n ≤ rows b (child i) → run_start b i n < 2 ^ (8 * param b i - 1)
      unfolding run_start
      ends-signed zero m = one-le-pow (8 * param b i - 1) 2 (lit< tt)
      ends-signed (suc n) m = ((facts x).run_ends i l q).small n m

      kept-signed : length kept < 2 ^ (8 * param b i - 1)
      unfolding places
      kept-signed = omega (arith, (kept-below b rs (facts x) x.picked i l).few, ((facts x).run_ends i l q).cover, ends-signed (rows b (child i)) (omega arith))

      end-positive : (j : ℕ) → j < length (sizes x i l q) → negative (param e i) (run_end e i j) ≡ false
      end-positive j m =
          rw (same-param x i l, run_end-is x i l q j m)
          (positive (param b i) (total (sizes x i l q) (suc j)) (omega (arith, total_mono (sizes x i l q) (suc j) (length (sizes x i l q)) m, total_kept x i l q, kept-signed)))

      end-rises : (j : ℕ) → j < length (sizes x i l q) → leb (run_end e i j) (run_start e i j) ≡ false
      unfolding kept_runs
      end-rises j m =
          let some = some-shared b i ((facts x).run_ends i l q) kept (kept-below b rs (facts x) x.picked i l) j (rw (length-map (kept_runs b i kept) (group_size b i kept)) at m) in
          rw (run_end-is x i l q j m, run-start x i l q j (omega arith))
          (lt-leb (total (sizes x i l q) (suc j)) (total (sizes x i l q) j) (omega (arith, total-more (sizes x i l q) j, some)))

      end-last : ltb (run_start e i (rows e (child i))) (places e i) ≡ false
      end-last =
          rw (run-count x i l q)
          (le-ltb (run_start e i (length (sizes x i l q))) (places e i)
          (omega (arith, run-start x i l q (length (sizes x i l q)) (omega arith), total_kept x i l q, places-kept x i l)))

      runs-right : bad_runs e i ≡ false
      unfolding bad_runs
      runs-right =
          or-none (none_any _ (rows e (child i)) (λ j m. let m' : j < length (sizes x i l q) = rw (run-count x i l q) at m in or-none (end-positive j m') (end-rises j m'))) end-last

    -- keys copied
    key_right : kind b i ≡ Dictionary → (r : ℕ) → r < length kept → (valid e i r && leb (rows e (child i)) (first_number (param e i) e i r)) ≡ false
    unfolding cells first
    key_right q r m =
        rw (
          same-param x i l,
          first-copied (param b i) Dictionary q r m (first_fits x i l Dictionary q) refl,
          carried-whole i (child i) r (omega arith) ((facts x).shape.next i l one) ((facts x).shape.under i l one) car m,
          valid-again x i l r m,
          get_d_map (valid b i) kept r 0 false m,
        )
        (go (valid b i (from r)) refl)
      where
        one : OneChild (kind b i)
        one = rw q is.OneChild.dictionary

        car : Carries (kind b i)
        car = rw q is.Carries.dictionary

        go : (t : Bool) → valid b i (from r) ≡ t → (t && leb (rows b (child i)) (first_number (param b i) b i (from r))) ≡ false
        go true v = lt-leb (rows b (child i)) _ ((facts x).keys i (from r) l q (from-below r m) v)
        go false v = refl

    id_right : kind b i ≡ Union → (r : ℕ) → r < length kept → leb (kids e i) (first_number 1 e i r) ≡ false
    unfolding cells first
    id_right q r m =
        rw (same-kids x i l, first-copied 1 Union q r m (omega (arith, first_fits x i l Union q)) refl)
        (lt-leb (kids b i) _ ((facts x).ids i (from r) l q (from-below r m)))

    node-content : (k : Kind) → kind b i ≡ k → bad_content k e i ≡ false
    unfolding bad_content cells first second
    node-content Bits q = refl
    node-content Native q = refl
    node-content Fixed q = refl
    node-content Bytes32 q = offsets-right 4 Bytes32 q refl (lit< tt) (lit< tt)
    node-content Bytes64 q = offsets-right 8 Bytes64 q refl (lit< tt) (lit< tt)
    node-content Views q = each_row (bad_view e i) (view-right q)
    node-content Lists32 q =
        each_row (bad_range 4 e i)
        (λ r m. range-right 4 r m (lit< tt) (rw q is.OneChild.lists32) (rw q is.Carries.lists32) (first-copied 4 Lists32 q r m (first_fits x i l Lists32 q) refl)
        (second-copied 4 Lists32 q r m (second_fits x i l Lists32 q) refl) ((facts x).lists32 i (from r) l q (from-below r m)))
    node-content Lists64 q =
        each_row (bad_range 8 e i)
        (λ r m. range-right 8 r m (lit< tt) (rw q is.OneChild.lists64) (rw q is.Carries.lists64) (first-copied 8 Lists64 q r m (first_fits x i l Lists64 q) refl)
        (second-copied 8 Lists64 q r m (second_fits x i l Lists64 q) refl) ((facts x).lists64 i (from r) l q (from-below r m)))
    node-content Runs q = runs-right q
    node-content Struct q = refl
    node-content Union q = each_row (λ r. leb (kids e i) (first_number 1 e i r)) (id_right q)
    node-content Dictionary q = each_row (λ r. valid e i r && leb (rows e (child i)) (first_number (param e i) e i r)) (key_right q)
    node-content Nested32 q = lists-right 4 (rw q is.Nests.nested32) (lit< tt)
    node-content Nested64 q = lists-right 8 (rw q is.Nests.nested64) (lit< tt)
    node-content Unknown q = refl

  pub content-right : wrong_content e ≡ false
  unfolding wrong_content
  content-right = each-node x (λ i. bad_content (kind e i) e i) (λ i l. rw (same_kind x i l) (node-content i l (kind b i) refl))
