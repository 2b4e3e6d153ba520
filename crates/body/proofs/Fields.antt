-- The ten fields of a node that was put: they fit in 32 bits, and are those that the format says. Assumes nothing.
use Prim.Native.Nat.{ℕ, ◌+◌, ◌*◌, ◌≤◌, ◌<◌}
use mathlib.Core.Path.{◌≡◌, refl, sym, ap, ◌∙◌}
use mathlib.Core.List.{List, [], ◌∷◌, ◌++◌, append_assoc, map}
use native.Mathlib.Omega.{arith}
use lib.ListN.{length, take, drop, length-append, length-map}
use lib.Seq.{drop-drop}
use Rattle.format.specs.Bytes.{join}
use Rattle.format.specs.Kept.{Cells, flags, entries, texts, ranges, groups, spans, nothing, KeptNode, kept_node}
use Rattle.format.specs.Node.{no_bitmap, valid}
use Rattle.format.specs.Put.{put}
use Rattle.format.specs.Verdict.{pack_limit}
use Rattle.format.specs.Write.{Buffer, bitmap, first, second, data_length}
use Rattle.format.proofs.NullLaws.{few-nulls}
use Rattle.format.proofs.Put.{put-parts}
use Rattle.append.specs.Cells.{padding}
use Rattle.buffers.specs.Place.{appended, ending}
use Rattle.nodes.specs.Body.{node_body, node_fields}
use Rattle.pack.specs.Read.{node_of}
use Rattle.pack.specs.declared.Node.{Node}
use Rattle.node_body.specs.Added.{Added}
use Rattle.node_body.specs.declared.Buffers.{Buffers}
use Rattle.node_body.proofs.AddLaws.{start-within, body_end-is}
use Rattle.body.specs.Written.{column_of, fields_of, put_at, Small, Written}

-- ---- ten numbers in the place of ten

pub ten-put : (old : List ℕ) (at size : ℕ) {ys bs : List ℕ} → ys ≡ bs → length bs ≡ size → at + size ≤ length old → take at old ++ (ys ++ drop size (drop at old)) ≡ put old at bs
ten-put old at size {bs = bs} same e fit = rw (same, drop-drop size at old, ← e) (sym (append_assoc (take at old) bs _) ∙ sym (put-parts old at bs (omega arith)))

-- ---- its starts, its data and its nulls are small

data-within : (at : ℕ) (c : Cells) → data_length c ≤ ending at (second c)
unfolding data_length second ending appended
data-within at (flags bs) = omega arith
data-within at (entries es) = omega arith
data-within at (texts w ts) = omega (arith, length-append (padding at) (join ts))
data-within at (ranges os ss) = omega arith
data-within at (groups w sizes) = omega arith
data-within at (spans w sizes) = omega arith
data-within at nothing = omega arith

further : (at : ℕ) (x : Buffer) → at ≤ ending at x
unfolding ending
further at x = omega arith

module _ {k : KeptNode} {old : List ℕ} {at : ℕ} {new : List ℕ} {r : Buffers} (a : Added k old at new r) (fit : at + length (node_body at k) ≤ pack_limit) where
  all_end : ending (ending (ending at (bitmap k.marks)) (first k.values)) (second k.values) ≤ pack_limit
  all_end = rw (← body_end-is k at) fit

  first-end : ending (ending at (bitmap k.marks)) (first k.values) ≤ pack_limit
  first-end = omega (arith, all_end, further (ending (ending at (bitmap k.marks)) (first k.values)) (second k.values))

  bitmap-end : ending at (bitmap k.marks) ≤ no_bitmap
  bitmap-end = omega (arith, first-end, further (ending at (bitmap k.marks)) (first k.values))

  pub validity-fits : r.validity ≤ no_bitmap
  validity-fits = rw a.bitmap_start (start-within no_bitmap at no_bitmap (bitmap k.marks) (omega arith) bitmap-end)

  pub first_fits : r.first ≤ pack_limit
  first_fits = rw a.first_start (start-within 0 (ending at (bitmap k.marks)) pack_limit (first k.values) (omega arith) first-end)

  pub second_fits : r.second ≤ pack_limit
  second_fits = rw a.second_start (start-within 0 (ending (ending at (bitmap k.marks)) (first k.values)) pack_limit (second k.values) (omega arith) all_end)

  pub data-fits : r.data ≤ pack_limit
  data-fits = rw a.size (omega (arith, all_end, data-within (ending (ending at (bitmap k.marks)) (first k.values)) k.values))

pub nulls-fit : (b : List ℕ) (i : ℕ) (rs : List ℕ) {old : List ℕ} {at : ℕ} {new : List ℕ} {r : Buffers} → Added (kept_node b i rs) old at new r → length rs ≤ 1_048_576
    → r.nulls ≤ 1_048_576
unfolding kept_node
nulls-fit b i rs a few = rw a.counted (omega (arith, few-nulls (map (valid b i) rs), length-map rs (valid b i)))

-- ---- its fields

pub small : (b : List ℕ) (i : ℕ) (rs : List ℕ) {kept : ℕ} {old : List ℕ} {at : ℕ} {new : List ℕ} {r : Buffers} → Added (kept_node b i rs) old at new r → at + length (node_body at (kept_node b i rs)) ≤ pack_limit
    → kept ≡ length rs → length rs ≤ 1_048_576 → Small kept r
small b i rs a fit e few =
    record {
      few = omega arith;
      validity = omega (arith, validity-fits a fit);
      first = omega (arith, first_fits a fit);
      second = omega (arith, second_fits a fit);
      long = omega (arith, data-fits a fit);
      nulls = omega (arith, nulls-fit b i rs a few);
    }

pub written_of : (b : List ℕ) (i : ℕ) (rs : List ℕ) {kept : ℕ} {old : List ℕ} {at : ℕ} {new : List ℕ} {r : Buffers} → Added (kept_node b i rs) old at new r → kept ≡ length rs
    → {fields after : List ℕ} → after ≡ put fields (10 * i) (fields_of (put_at (node_of b i) kept r)) → Written (column_of b i) (kept_node b i rs) i old at new r.next fields after
unfolding node_fields kept_node
written_of b i rs a e p = record { body = a.wrote; nodes = p ∙ rw (e, a.bitmap_start, a.first_start, a.second_start, a.size, a.counted, length-map) }
