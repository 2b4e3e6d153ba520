-- The content checks of `format` on node i, by the numbers from a place on. Assumes nothing.
use Rattle.std.proofs.Common.{◌≡◌, ℕ, zero, suc, ◌+◌, ◌*◌, true, false, ◌&&◌, ◌||◌, ltb, leb, List, sym, refl, ap, ap₂, add_assoc, mul-add, arith}
use Rattle.format.specs.Bytes.{le, negative, any_below}
use Rattle.format.specs.Node.{table_start, field, param, rows, skip, kids, validity_at, first_at, second_at, places, has_no_bitmap, valid}
use Rattle.format.specs.Node.{first_number, second_number, run_end, run_start, child, data_buffer}
use Rattle.format.specs.Verdict.{bad_offsets, view_field, view_data, bad_long, bad_short, bad_view, bad_range, bad_runs}
use Rattle.content.specs.Numbers.{number, falls, bad_offsets_at, bad_range_at, bad_key, bad_valid_key, start_at, bad_runs_at, view_at, unused_at, bad_long_at, bad_view_at}
use Rattle.content.proofs.Fold.{any-ext}

module _ (b : List ℕ) (i : ℕ) where
  -- a row counted after skip is one of a buffer that starts after skip
  after-skip : (w at r : ℕ) → at + w * (skip b i + r) ≡ at + w * skip b i + w * r
  after-skip w at r = rw mul-add (sym (add_assoc at (w * skip b i) (w * r)))

  first-number : (w r : ℕ) → first_number w b i r ≡ number w b (first_at b i + w * skip b i) r
  unfolding first_number number
  first-number w r = ap (le w b) (after-skip w (first_at b i) r)

  second-number : (w r : ℕ) → second_number w b i r ≡ number w b (second_at b i + w * skip b i) r
  unfolding second_number number
  second-number w r = ap (le w b) (after-skip w (second_at b i) r)

  pub offsets-at : (w size : ℕ) → bad_offsets_at w b (first_at b i + w * skip b i) (rows b i) size ≡ bad_offsets w size b i
  unfolding bad_offsets bad_offsets_at falls
  offsets-at w size =
      let f : (r : ℕ) → number w b (first_at b i + w * skip b i) r ≡ first_number w b i r = λ r. sym (first-number w r) in
      ap₂ ◌||◌
      (ap₂ ◌||◌ (ap (negative w) (f 0))
      (any-ext _ _ (rows b i) (λ r l. ap₂ ◌||◌ (ap (negative w) (f (suc r))) (ap₂ ltb (f (suc r)) (f r)))))
      (ap (ltb size) (f (rows b i)))

  pub lists_at : (w n : ℕ) → any_below (bad_range_at w b (first_at b i + w * skip b i) (second_at b i + w * skip b i) (rows b (child i))) n ≡ any_below (bad_range w b i) n
  unfolding bad_range bad_range_at
  lists_at w n = any-ext _ _ n (λ r l. rw (first-number w r, second-number w r))

  run-start : (j : ℕ) → run_start b i j ≡ start_at (param b i) b (first_at b i) j
  unfolding run_start start_at run_end number
  run-start zero = refl
  run-start (suc j) = refl

  pub runs-at : bad_runs_at (param b i) b (first_at b i) (rows b (child i)) (places b i) ≡ bad_runs b i
  unfolding bad_runs bad_runs_at run_end number
  runs-at =
      ap₂ ◌||◌ (any-ext _ _ (rows b (child i)) (λ j l. rw (run-start j)))
      (ap (λ (k : ℕ). ltb k (places b i)) (sym (run-start (rows b (child i)))))

  pub ids_at : (n : ℕ) → any_below (bad_key 1 b (first_at b i + skip b i) (kids b i)) n ≡ any_below (λ r. leb (kids b i) (first_number 1 b i r)) n
  unfolding bad_key
  ids_at n =
      let e : first_at b i + skip b i ≡ first_at b i + 1 * skip b i = omega arith in
      rw e (any-ext _ _ n (λ r l. ap (leb (kids b i)) (sym (first-number 1 r))))

  -- keys, without a bitmap and with one
  module _ (w limit n : ℕ) where
    pub keys-at : has_no_bitmap b i ≡ true
        → any_below (bad_key w b (first_at b i + w * skip b i) limit) n ≡ any_below (λ r. valid b i r && leb limit (first_number w b i r)) n
    unfolding bad_key valid
    keys-at e = any-ext _ _ n (λ r l. rw (e, first-number w r))

    pub valid-keys-at : has_no_bitmap b i ≡ false
        → any_below (bad_valid_key w b (first_at b i + w * skip b i) limit (validity_at b i) (skip b i)) n ≡ any_below (λ r. valid b i r && leb limit (first_number w b i r)) n
    unfolding bad_valid_key bad_key valid
    valid-keys-at e = any-ext _ _ n (λ r l. rw (e, first-number w r))

  -- the fields of view r, by its place
  view-place : (r : ℕ) → first_at b i + 16 * (skip b i + r) ≡ first_at b i + 16 * skip b i + 16 * r
  view-place r = after-skip 16 (first_at b i) r

  view-field : (k r : ℕ) → view_field k b i r ≡ view_at k b (first_at b i + 16 * skip b i + 16 * r)
  unfolding view_field view_at
  view-field k r = ap (λ (at : ℕ). le 4 b (at + 4 * k)) (view-place r)

  -- the fields of data buffer k, from the rows of the first on
  module _ (k : ℕ) where
    pub data-rows : rows b (data_buffer i k) ≡ le 4 b (table_start b + 40 * i + 48 + 40 * k)
    unfolding rows field
    data-rows = let e : table_start b + 40 * suc (i + k) + 8 ≡ table_start b + 40 * i + 48 + 40 * k = omega arith in ap (le 4 b) e

    pub data-skip : skip b (data_buffer i k) ≡ le 4 b (table_start b + 40 * i + 48 + 40 * k + 4)
    unfolding skip field
    data-skip = let e : table_start b + 40 * suc (i + k) + 12 ≡ table_start b + 40 * i + 48 + 40 * k + 4 = omega arith in ap (le 4 b) e

    pub data-first : first_at b (data_buffer i k) ≡ le 4 b (table_start b + 40 * i + 48 + 40 * k + 16)
    unfolding first_at field
    data-first = let e : table_start b + 40 * suc (i + k) + 24 ≡ table_start b + 40 * i + 48 + 40 * k + 16 = omega arith in ap (le 4 b) e

  module _ (r : ℕ) where
    long-at : bad_long b i r ≡ bad_long_at b (kids b i) (table_start b + 40 * i + 48) (first_at b i + 16 * skip b i + 16 * r)
    unfolding bad_long bad_long_at view_data
    long-at = rw (data-rows, data-skip, data-first, view-field 0 r, view-field 1 r, view-field 2 r, view-field 3 r)

    short-at : bad_short b i r ≡ unused_at b (first_at b i + 16 * skip b i + 16 * r) (view_field 0 b i r)
    unfolding bad_short unused_at
    short-at = rw (view-place r)

    view-at : bad_view_at b (kids b i) (table_start b + 40 * i + 48) (first_at b i + 16 * skip b i + 16 * r) ≡ bad_view b i r
    unfolding bad_view bad_view_at
    view-at = rw (long-at, short-at, view-field 0 r)

  pub views-at : (n : ℕ) → any_below (λ r. bad_view_at b (kids b i) (table_start b + 40 * i + 48) (first_at b i + 16 * skip b i + 16 * r)) n ≡ any_below (bad_view b i) n
  views-at n = any-ext _ _ n (λ r l. view-at r)
