-- An accepted pack's bits lie in it, and a mask's slots are those that `format` picks: its count, its runs and its row numbers. Assumes nothing.
use Prim.Native.Nat.{ℕ, ◌+◌, ◌*◌, ◌≤◌, ◌<◌}
use mathlib.Core.Bool.{Bool, true, false, not, ◌&&◌, ◌||◌}
use mathlib.Core.List.{List}
use Rattle.std.specs.Prelude.{cond, Some, None}
use Rattle.std.specs.Option.{option_map_or}
use Rattle.std.proofs.lemmas.Option.{none-some, same_Some}
use mathlib.Core.Path.{◌≡◌, refl, sym, ap, ◌∙◌}
use native.Mathlib.Omega.{arith}
use borrow.Author.Tests.{ltb-false, eqb-true, not-true, not-false}
use lib.Dec.{eqb, ltb}
use lib.ListN.{length}
use Rattle.format.specs.declared.Kind.TheVariants.{Bits}
use Rattle.format.specs.Bytes.{any_below, bytes_for}
use Rattle.format.specs.Node.{table_start, node_count, root_rows, rows, first_at, validity_at, param, second_at, second_length, kind_number, kind_of, kind, of_kind, places, has_no_bitmap, valid, child}
use Rattle.format.specs.Verdict.{pack_limit, row_limit, wrong_size, wrong_table, wrong_rows, wrong_buffers, wrong_root, bad_buffers, first_size, second_size, mask_verdict, bad_child_rows}
use Rattle.format.specs.Mask.{picked, mask_length, picks, count, edges}
use Rattle.format.specs.Slots.{picks_from, runs_from, starts_and_ends}
use Rattle.format.proofs.Laws.{any_none, Accepted, accepted-mask}
use Rattle.format.proofs.Accepted.{or_left, or_right}
use Rattle.format.proofs.SlotLaws.{picks-ext, runs-ext, chosen-picks, edges-runs}
use Rattle.slots.specs.Source.{both_set, slot_of, Lies}
use Rattle.slots.specs.Node.{bits_of}
use Rattle.slots.proofs.Reading.{slot_is}

-- ---- conditions that came out false

-- a place where there is a bitmap, and what is asked of it
some-place : {x at : ℕ} (none : Bool) → cond none None (Some x) ≡ Some at → (none ≡ false) × (x ≡ at)
some-place true e = absurd (none-some _ e)
some-place false e = (refl, same_Some _ _ e)

unless-none : (p : ℕ → Bool) (none : Bool) (x : ℕ) → option_map_or p (cond none None (Some x)) true ≡ (none || p x)
unless-none p true x = refl
unless-none p false x = refl

-- ---- an accepted pack

module _ (b : List ℕ) (ok : Accepted b) where
  not-long : length b ≤ pack_limit
  unfolding wrong_size
  not-long = ltb-false _ _ (or_right (ltb (length b) 16) (ltb pack_limit (length b)) ok.size)

  some-node : 0 < node_count b
  unfolding wrong_table
  some-node = let l = ltb-false (node_count b) 1 (or_left _ (ltb 64 (node_count b)) (or_left _ (not (eqb (table_start b + 40 * node_count b + 16) (length b))) ok.tabled)) in omega arith

  table-in : table_start b ≤ length b
  unfolding wrong_table
  table-in =
      let e : table_start b + 40 * node_count b + 16 ≡ length b = eqb-true _ _ (not-false _ (or_right (ltb (node_count b) 1 || ltb 64 (node_count b)) _ ok.tabled)) in
      omega arith

  -- node i
  module _ (i : ℕ) (l : i < node_count b) where
    few-places : places b i ≤ row_limit
    unfolding wrong_rows
    few-places = ltb-false _ _ (any_none (λ i. ltb row_limit (places b i)) (node_count b) i l (or_left _ (not (eqb (root_rows b) (rows b 0))) (or_left _ (any_below (λ i. ltb 0 i && bad_child_rows b i) (node_count b)) ok.rowed)))

    good-buffers : bad_buffers b i ≡ false
    unfolding wrong_buffers
    good-buffers = any_none (bad_buffers b) (node_count b) i l ok.buffers

    -- its bitmap, where there is one, and its first buffer
    bitmap-in : has_no_bitmap b i ≡ false → validity_at b i + bytes_for (places b i) ≤ table_start b
    unfolding bad_buffers
    bitmap-in e = ltb-false _ _ (rw e at (or_left (not (has_no_bitmap b i) && ltb (table_start b) (validity_at b i + bytes_for (places b i))) _ (or_left _ (ltb (table_start b) (second_at b i + second_size (kind b i) (places b i) (second_length b i))) good-buffers)))

    first-in : first_at b i + first_size (kind b i) (param b i) (places b i) (rows b (child i)) ≤ table_start b
    unfolding bad_buffers
    first-in = ltb-false _ _ (or_right (not (has_no_bitmap b i) && ltb (table_start b) (validity_at b i + bytes_for (places b i))) _ (or_left _ (ltb (table_start b) (second_at b i + second_size (kind b i) (places b i) (second_length b i))) good-buffers))

    -- its bits, where it has some
    module _ (bits : of_kind 1 b i ≡ true) where
      is-bits : kind b i ≡ Bits
      unfolding kind kind_of of_kind
      is-bits = let e : kind_number b i ≡ 1 = eqb-true _ _ bits in rw e

      bits_in : first_at b i + bytes_for (places b i) ≤ table_start b
      bits_in = rw is-bits at first-in

      pub bits-lie : Lies b (bits_of b i)
      unfolding places bytes_for
      bits-lie =
          let long = not-long in
          let top = table-in in
          record {
            small = omega arith;
            values = omega (arith, bits_in);
            validity = λ at e. let h = some-place (has_no_bitmap b i) e in omega (arith, bitmap-in h.0, h.1);
          }

-- ---- a mask: its slots are those that it picks

module _ (m : List ℕ) where
  pub slot-picked : (j : ℕ) → j < mask_length m → slot_of m (bits_of m 0) j ≡ picked m j
  unfolding mask_length picked both_set valid
  slot-picked j h = slot_is m (bits_of m 0) j h ∙ rw unless-none

  pub mask-picks : picks_from (slot_of m (bits_of m 0)) (rows m 0) 0 ≡ picks m
  unfolding mask_length picks
  mask-picks = picks-ext _ _ (rows m 0) 0 (λ j _ l. slot-picked j (omega arith)) ∙ sym (chosen-picks (picked m) (rows m 0))

  pub mask-count : length (picks_from (slot_of m (bits_of m 0)) (rows m 0) 0) ≡ count m
  unfolding count
  mask-count = ap length mask-picks

  pub mask-runs : starts_and_ends (runs_from (slot_of m (bits_of m 0)) (rows m 0) 0) ≡ edges (picked m) (mask_length m)
  unfolding mask_length
  mask-runs = ap starts_and_ends (runs-ext _ _ (rows m 0) 0 (λ j _ l. slot-picked j (omega arith))) ∙ sym (edges-runs (picked m) (rows m 0))

  -- accepted, they lie in it
  module _ (ok : mask_verdict m ≡ 0) where
    root-bits : of_kind 1 m 0 ≡ true
    unfolding wrong_root
    root-bits = not-false _ (accepted-mask m ok).1

    pub mask-lies : Lies m (bits_of m 0)
    mask-lies = let a = (accepted-mask m ok).0 in bits-lie m a 0 (some-node m a) root-bits

    pub mask-short : rows m 0 ≤ row_limit
    unfolding places
    mask-short = let a = (accepted-mask m ok).0 in let h = few-places m a 0 (some-node m a) in omega arith
