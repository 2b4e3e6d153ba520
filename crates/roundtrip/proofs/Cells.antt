-- What stands in a node's rows, read back from the buffers that the writer laid down: entries, offsets and texts, run ends. Assumes nothing.
use Prim.Native.Nat.{ℕ, zero, suc, ◌+◌, ◌-◌, ◌*◌, ◌^◌, ◌≤◌, ◌<◌}
use mathlib.Core.Path.{◌≡◌, refl, sym, ap, ◌∙◌}
use mathlib.Core.Bool.{Bool, false}
use mathlib.Core.List.{List, [], map}
use native.Mathlib.Nat.{add-zero, zero-add, add-suc, mul-suc, mul-le-mul_left}
use native.Mathlib.Omega.{arith}
use lib.ListN.{length, get_or, length-map}
use Rattle.format.specs.Bytes.{table, join, sum_below, le, bit_at, bytes_at, packed}
use Rattle.format.specs.Node.{param, skip, first_at, first_number, run_end, run_start}
use Rattle.format.specs.Verdict.{pack_limit}
use Rattle.format.specs.Kept.{Column, KeptNode, flags, texts, groups, spans, first_entry, second_entry, own_bytes}
use Rattle.format.specs.Write.{holds, total, numbers, offsets, ends, write, first, second}
use Rattle.format.proofs.Laws.{length-table, get_or-table}
use Rattle.format.proofs.Measure.{length-packed, length-numbers}
use Rattle.roundtrip.specs.Placed.{Lies, Fits, node_at}
use Rattle.roundtrip.proofs.Parts.{get_d_map, bytes-within, le-part, join-part, total-join, total-more, entry-part, length-entries, number_at, bit-part}
use Rattle.roundtrip.proofs.Written.{table-start, limit, skip-back, first-lies, second-lies}

-- ---- in any byte list

-- sizes that are summed further give no less
total-plus : (sizes : List ℕ) (j d : ℕ) → total sizes j ≤ total sizes (j + d)
total-plus sizes j zero = rw add-zero (omega arith)
total-plus sizes j (suc d) = rw add-suc (omega (arith, total-plus sizes j d, total-more sizes (j + d)))

pub total_mono : (sizes : List ℕ) (j k : ℕ) → j ≤ k → total sizes j ≤ total sizes k
total_mono sizes j k h = let e : k ≡ j + (k - j) = omega arith in rw e (total-plus sizes j (k - j))

-- item r of w bytes ends by item n's start
room : (w r n : ℕ) → r < n → w * r + w ≤ w * n
room w r n h = rw (← mul-suc w r) (mul-le-mul_left w h)

module _ (b : List ℕ) (end at : ℕ) where
  pub entry_in : (w : ℕ) (es : List (List ℕ)) (r : ℕ) → Lies b end at (join es) → ((j : ℕ) → j < length es → length (get_or es j []) ≡ w) → r < length es
      → bytes_at b (at + w * r) w ≡ get_or es r []
  entry_in w es r l wide h =
      sym (bytes-within b at (length (join es)) (w * r) w (rw (length-entries w es wide) (room w r (length es) h)))
      ∙ ap (λ (x : List ℕ). bytes_at x (w * r) w) l.bytes
      ∙ entry-part w es wide r h

  pub number_in : (w : ℕ) (ns : List ℕ) (r : ℕ) → Lies b end at (numbers w ns) → r < length ns → get_or ns r 0 < 256 ^ w → le w b (at + w * r) ≡ get_or ns r 0
  number_in w ns r l h s =
      sym (le-part b at (length (numbers w ns)) (w * r) w (rw (length-numbers w ns) (room w r (length ns) h)))
      ∙ ap (λ (x : List ℕ). le w x (w * r)) l.bytes
      ∙ number_at w ns r h s

  pub text_in : (ts : List (List ℕ)) (r : ℕ) → Lies b end at (join ts) → r < length ts
      → bytes_at b (at + total (map length ts) r) (total (map length ts) (suc r) - total (map length ts) r) ≡ get_or ts r []
  text_in ts r l h =
      let size : get_or (map length ts) r 0 ≡ length (get_or ts r []) = get_d_map length ts r [] 0 h in
      let e : total (map length ts) (suc r) - total (map length ts) r ≡ length (get_or ts r []) = omega (arith, total-more (map length ts) r) in
      let fit : total (map length ts) r + length (get_or ts r []) ≤ length (join ts) =
      omega (arith, total-more (map length ts) r, total_mono (map length ts) (suc r) (length ts) h, total-join ts) in
      rw e
      (sym (bytes-within b at (length (join ts)) (total (map length ts) r) (length (get_or ts r [])) fit)
      ∙ ap (λ (x : List ℕ). bytes_at x (total (map length ts) r) (length (get_or ts r []))) l.bytes
      ∙ join-part ts r h)

-- ---- in a pack that was written

module _ (cs : List Column) (ks : List KeptNode) (fits : Fits cs ks) (i : ℕ) (h : i < length cs) where
  -- nothing is skipped
  at_row : (w r : ℕ) → w * (skip (write cs ks) i + r) ≡ w * r
  at_row w r = rw (skip-back cs ks fits i h, zero-add)

  pub flags-back : (bs : List Bool) (r : ℕ) → (node_at ks i).values ≡ flags bs → r < length bs → bit_at (write cs ks) (first_at (write cs ks) i) (skip (write cs ks) i + r) ≡ get_or bs r false
  unfolding first
  flags-back bs r e l =
      rw (skip-back cs ks fits i h, zero-add)
      (bit-part (write cs ks) (first_at (write cs ks) i) bs r (rw (length-packed bs) at (first-lies cs ks fits i h (packed bs) (ap first e)).bytes) l)

  pub entries-back : (w : ℕ) (es : List (List ℕ)) (r : ℕ) → first (node_at ks i).values ≡ holds (join es) → ((j : ℕ) → j < length es → length (get_or es j []) ≡ w)
      → r < length es → first_entry w (write cs ks) i r ≡ get_or es r []
  unfolding first_entry
  entries-back w es r e wide l = rw (at_row w r) (entry_in (write cs ks) _ _ w es r (first-lies cs ks fits i h (join es) e) wide l)

  pub seconds-back : (w : ℕ) (es : List (List ℕ)) (r : ℕ) → second (node_at ks i).values ≡ holds (join es) → ((j : ℕ) → j < length es → length (get_or es j []) ≡ w)
      → r < length es → second_entry w (write cs ks) i r ≡ get_or es r []
  unfolding second_entry
  seconds-back w es r e wide l = rw (at_row w r) (entry_in (write cs ks) _ _ w es r (second-lies cs ks fits i h (join es) e) wide l)

  -- offsets count from 0, and tell each text
  module _ (w : ℕ) (ts : List (List ℕ)) (e : (node_at ks i).values ≡ texts w ts) (wide : pack_limit < 256 ^ w) where
    pub data-short : length (join ts) ≤ pack_limit
    unfolding second
    data-short = omega (arith, (second-lies cs ks fits i h (join ts) (ap second e)).inside, table-start cs ks fits, limit cs ks fits)

    pub offset-back : (r : ℕ) → r ≤ length ts → first_number w (write cs ks) i r ≡ total (map length ts) r
    unfolding first_number first offsets
    offset-back r l =
        let n : length (table (total (map length ts)) (suc (length (map length ts)))) ≡ suc (length ts) =
        length-table (total (map length ts)) (suc (length (map length ts))) ∙ ap suc (length-map ts length) in
        let g : get_or (table (total (map length ts)) (suc (length (map length ts)))) r 0 ≡ total (map length ts) r =
        get_or-table (total (map length ts)) (suc (length (map length ts))) r 0 (omega (arith, length-map ts length)) in
        let s : total (map length ts) r < 256 ^ w = omega (arith, total_mono (map length ts) r (length ts) l, total-join ts, data-short) in
        rw (at_row w r)
        (number_in (write cs ks) _ _ w _ r (first-lies cs ks fits i h _ (ap first e)) (omega arith) (rw g s) ∙ g)

    pub text-back : (r : ℕ) → r < length ts → own_bytes w (write cs ks) i r ≡ get_or ts r []
    unfolding own_bytes second
    text-back r l = rw (offset-back r (omega arith), offset-back (suc r) l) (text_in (write cs ks) _ _ ts r (second-lies cs ks fits i h (join ts) (ap second e)) l)

  -- the offsets of lists count from 0 too
  module _ (w : ℕ) (sizes : List ℕ) (e : (node_at ks i).values ≡ spans w sizes) (small : total sizes (length sizes) < 256 ^ w) where
    pub span-back : (r : ℕ) → r ≤ length sizes → first_number w (write cs ks) i r ≡ total sizes r
    unfolding first_number first offsets
    span-back r l =
        let n : length (table (total sizes) (suc (length sizes))) ≡ suc (length sizes) = length-table (total sizes) (suc (length sizes)) in
        let g : get_or (table (total sizes) (suc (length sizes))) r 0 ≡ total sizes r = get_or-table (total sizes) (suc (length sizes)) r 0 (omega arith) in
        let s : total sizes r < 256 ^ w = omega (arith, total_mono sizes r (length sizes) l) in
        rw (at_row w r) (number_in (write cs ks) _ _ w _ r (first-lies cs ks fits i h _ (ap first e)) (omega arith) (rw g s) ∙ g)

  -- each run ends at the running count
  module _ (w : ℕ) (sizes : List ℕ) (e : (node_at ks i).values ≡ groups w sizes) (p : param (write cs ks) i ≡ w) (small : total sizes (length sizes) < 256 ^ w) where
    pub end_back : (j : ℕ) → j < length sizes → run_end (write cs ks) i j ≡ total sizes (suc j)
    unfolding run_end first ends
    end_back j l =
        let n : length (table (λ k. total sizes (suc k)) (length sizes)) ≡ length sizes = length-table (λ k. total sizes (suc k)) (length sizes) in
        let g : get_or (table (λ k. total sizes (suc k)) (length sizes)) j 0 ≡ total sizes (suc j) = get_or-table (λ k. total sizes (suc k)) (length sizes) j 0 l in
        let s : total sizes (suc j) < 256 ^ w = omega (arith, total_mono sizes (suc j) (length sizes) l) in
        rw p (number_in (write cs ks) _ _ w _ j (first-lies cs ks fits i h _ (ap first e)) (omega arith) (rw g s) ∙ g)

    pub start_back : (j : ℕ) → j ≤ length sizes → run_start (write cs ks) i j ≡ total sizes j
    unfolding run_start total sum_below
    start_back zero l = refl
    start_back (suc j) l = end_back j l
