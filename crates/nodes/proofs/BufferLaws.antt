-- The first and second buffers of a node's kept rows as the writers write them, and that they lie in the journal. Assumes nothing.
use Prim.Native.Nat.{ℕ, suc, ◌+◌, ◌*◌, ◌^◌, ◌≤◌, ◌<◌}
use mathlib.Core.Path.{◌≡◌, refl, sym, ap, ◌∙◌}
use mathlib.Core.Bool.{Bool}
use mathlib.Core.List.{List, map}
use mathlib.Core.Logic.{◌⊎◌, inl, inr}
use native.Mathlib.Nat.{add_assoc, add-suc, mul-add, mul-le-mul_left, one-mul}
use native.Mathlib.Omega.{arith}
use lib.ListN.{length}
use Rattle.format.specs.declared.Kind.{Kind}
use Rattle.format.specs.declared.Kind.TheVariants.{Bits as BitsKind, Native, Fixed, Bytes32, Bytes64, Views, Lists32, Lists64, Runs, Struct, Union, Dictionary, Nested32, Nested64, Unknown}
use Rattle.format.specs.Bytes.{bit_at, packed}
use Rattle.format.specs.Accepted as Accepted
use Rattle.format.specs.Kept.{cells, texts, own_bytes}
use Rattle.format.specs.Node.{kind, param, rows, skip, places, first_at, second_at, second_length, child, node_count}
use Rattle.format.specs.Verdict.{first_size, second_size}
use Rattle.format.specs.Write.{absent, holds, first, second, numbers, offsets}
use Rattle.append.specs.Cells.{entries_of, Entries}
use Rattle.texts.specs.Texts.{offset, start_in, sizes_of, texts_of, Texts}
use Rattle.texts.proofs.NodeLaws.{first-offset}
use Rattle.bitmaps.specs.Push.{bit_from}
use Rattle.columns.proofs.Buffers.{first-of-entries, first-of-ranges, second-of-ranges}
use Rattle.text_columns.proofs.Buffers.{first-of-texts, second-of-texts}
use Rattle.runs.specs.Groups.{EndsLie, size_at, end_bytes}
use Rattle.runs.proofs.NodeLaws.{run-cells, ends-lie}
use Rattle.pack.specs.declared.Node.{Node}
use Rattle.pack.specs.Read.{node_of}
use Rattle.predicate.specs.Selection.{reach, selected}
use Rattle.text_columns.proofs.Blocks.{among-all}
use Rattle.nodes.proofs.NullLaws.{map_same}
use Rattle.nodes.specs.declared.picked.Picked.{Picked}
use Rattle.nodes.specs.Rows.{bytes_of, kind_of, param_of, values_of}
use Rattle.nodes.specs.Place.{ByteColumn, bytes32, bytes64, Copies, Sizes, sizes32, sizes64, of_native, of_fixed, of_views, of_lists32, of_lists64, of_union, of_dictionary}

module _ (b : List ℕ) (i : ℕ) (rs : List ℕ) where
  pub first-copies : {k : Kind} {w : ℕ} → Copies k (param b i) w → first (cells k b i rs) ≡ holds (entries_of w b (first_at b i + w * skip b i) rs)
  unfolding cells
  first-copies of_native = first-of-entries (param b i) b i rs
  first-copies of_fixed = first-of-entries (param b i) b i rs
  first-copies of_views = first-of-entries 16 b i rs
  first-copies of_lists32 = first-of-ranges 4 b i rs _
  first-copies of_lists64 = first-of-ranges 8 b i rs _
  first-copies of_union = first-of-entries 1 b i rs
  first-copies of_dictionary = first-of-entries (param b i) b i rs

pub size-copies : {k : Kind} {p w : ℕ} → Copies k p w → (n c : ℕ) → first_size k p n c ≡ w * n
size-copies of_native n c = refl
size-copies of_fixed n c = refl
size-copies of_views n c = refl
size-copies of_lists32 n c = refl
size-copies of_lists64 n c = refl
size-copies of_union n c = sym (one-mul n)
size-copies of_dictionary n c = refl

pub width-copies : {k : Kind} {p w : ℕ} → Copies k p w → p ≤ 1024 → w ≤ 1024
width-copies of_native h = h
width-copies of_fixed h = h
width-copies of_views h = omega arith
width-copies of_lists32 h = omega arith
width-copies of_lists64 h = omega arith
width-copies of_union h = omega arith
width-copies of_dictionary h = h

-- entries of w bytes that lie in the body for all places lie in it for the first rows after skip
pub entries-after : (w b at s r n len : ℕ) → at + w * (s + r) ≤ b → len ≤ r → at + w * s + w * len ≤ b
entries-after w b at s r n len h l =
    let split = mul-add w s r in
    let less = mul-le-mul_left w l in
    omega arith

-- where the code finds row 0, by a node's fields
module _ (b : List ℕ) (i : ℕ) {node : Node} (is : node ≡ node_of b i) (w r : ℕ) where
  pub place_is : r ≡ node.first_at + w * node.skip → r ≡ first_at b i + w * skip b i
  place_is e = e ∙ rw is

  pub size-place-is : r ≡ node.second_at + w * node.skip → r ≡ second_at b i + w * skip b i
  size-place-is e = e ∙ rw is

module _ (p : Picked) where
  abbrev pub b : List ℕ
  b = bytes_of p

  abbrev pub i : ℕ
  i = p.index

  abbrev pub rs : List ℕ
  rs = selected p.sel

  abbrev pub sound : Accepted.Sound (bytes_of p)
  sound = p.journal.now.sound

  pub narrow : param_of p ≤ 1024
  narrow = (sound.fields i p.inside).narrow

  pub few-rows : reach p.sel ≤ 1_048_576
  unfolding places
  few-rows = omega (arith, p.short, sound.agree.limit i p.inside)

  -- bit numbers are small
  pub bits_small : {node : Node} → node ≡ node_of b i → 8 * node.first_at + node.skip + reach p.sel < 2 ^ 61
  unfolding places
  bits_small is =
      let few = few-rows in
      let limit = sound.agree.limit i p.inside in
      let lies = (sound.in_body i p.inside).first in
      let table = sound.shape.table in
      let small = sound.shape.small in
      rw is (omega arith)

  pub entries-lie : {w : ℕ} → Copies (kind_of p) (param_of p) w → Entries w b (first_at b i + w * skip b i) (reach p.sel)
  unfolding places
  entries-lie {w} k =
      let lies = (sound.in_body i p.inside).first in
      let size = size-copies k (skip b i + rows b i) (rows b (child i)) in
      let table = sound.shape.table in
      let few = few-rows in
      record {
        small = omega arith;
        inside = entries-after w (length b) (first_at b i) (skip b i) (rows b i) 0 (reach p.sel) (omega arith) p.short;
      }

  pub first-bits-are : {node : Node} → node ≡ node_of b i → kind_of p ≡ BitsKind → first (values_of p) ≡ holds (packed (map (bit_from b (8 * node.first_at + node.skip)) rs))
  unfolding first cells bit_at bit_from
  first-bits-are is k = rw (k, is) (ap (λ (vs : List Bool). holds (packed vs)) (map_same _ (bit_from b (8 * first_at b i + skip b i)) rs (λ r. rw add_assoc)))

-- ---- byte columns

pub column-narrow : {k : Kind} {w : ℕ} → ByteColumn k w → w ≤ 1024
column-narrow bytes32 = omega arith
column-narrow bytes64 = omega arith

column-width : {k : Kind} {w : ℕ} → ByteColumn k w → (w ≡ 4) ⊎ (w ≡ 8)
column-width bytes32 = inl refl
column-width bytes64 = inr refl

column-cells : (b : List ℕ) (i : ℕ) (rs : List ℕ) {k : Kind} {w : ℕ} → ByteColumn k w → cells k b i rs ≡ texts w (map (own_bytes w b i) rs)
unfolding cells
column-cells b i rs bytes32 = refl
column-cells b i rs bytes64 = refl

module _ (p : Picked) {w : ℕ} (c : ByteColumn (kind_of p) w) where
  column-offsets : Accepted.Offsets w (b p) (i p)
  column-offsets = go refl c
    where
      go : {k : Kind} {v : ℕ} → kind_of p ≡ k → ByteColumn k v → Accepted.Offsets v (b p) (i p)
      go e bytes32 = (sound p).offsets32 (i p) p.inside e
      go e bytes64 = (sound p).offsets64 (i p) p.inside e

  -- offsets and own bytes lie in the journal for the selected rows
  pub texts-lie : Texts 1 w (b p) (first_at (b p) (i p) + w * skip (b p) (i p)) (second_at (b p) (i p)) (reach p.sel)
  unfolding places start_in
  texts-lie =
      let o = column-offsets in
      let table = (sound p).shape.table in
      let lie = o.lie in
      let data_lies = o.data_lies in
      let short = p.short in
      let last = o.inside (reach p.sel) short in
      record {
        width = column-width c;
        offsets = record {
          inside = entries-after w (length (b p)) (first_at (b p) (i p)) (skip (b p) (i p)) (suc (rows (b p) (i p))) 0 (suc (reach p.sel)) (rw add-suc (omega arith)) (omega arith);
          rising = λ r l. rw (first-offset w (b p) (i p) r, first-offset w (b p) (i p) (suc r)) (o.rise r (omega arith));
        };
        within = rw (first-offset w (b p) (i p) (reach p.sel)) (omega arith);
      }

  pub first-texts-are : first (values_of p) ≡ holds (numbers w (offsets (sizes_of (offset w (b p) (first_at (b p) (i p) + w * skip (b p) (i p))) (rs p))))
  first-texts-are = ap first (column-cells (b p) (i p) (rs p) c) ∙ first-of-texts w (b p) (i p) (rs p) (among-all p.sel texts-lie)

  pub second-texts-are : second (values_of p) ≡ holds (texts_of (start_in 1 w (b p) (first_at (b p) (i p) + w * skip (b p) (i p))) (b p) (second_at (b p) (i p)) (rs p))
  second-texts-are = ap second (column-cells (b p) (i p) (rs p) c) ∙ second-of-texts w (b p) (i p) (rs p)

-- ---- runs

module _ (p : Picked) (k : kind_of p ≡ Runs) where
  -- a runs node has a child
  pub child-inside : child (i p) < node_count (b p)
  child-inside = (sound p).shape.next (i p) p.inside (rw k Accepted.OneChild.runs)

  -- by the fields that the code has
  module _ {node : Node} (is : node ≡ node_of (b p) (i p)) {n : ℕ} (e : n ≡ rows (b p) (child (i p))) where
    pub runs-lie : EndsLie node.param (b p) node.first_at n
    runs-lie =
        let ends = (sound p).run_ends (i p) p.inside k in
        rw (is, e) (ends-lie (b p) (i p) ends.width ends (omega (arith, (sound p).shape.table)))

    pub first-runs-are : first (values_of p) ≡ holds (end_bytes node.param (size_at node.param (b p) node.first_at node.skip (rs p)) n)
    first-runs-are = ap (λ (x : Kind). first (cells x (b p) (i p) (rs p))) k ∙ run-cells (b p) (i p) (rs p) ∙ rw (is, e)

-- a struct has no buffer of its own, and nor has what is no kind
pub first-struct : (b : List ℕ) (i : ℕ) (rs : List ℕ) → kind b i ≡ Struct → first (cells (kind b i) b i rs) ≡ absent
unfolding first cells
first-struct b i rs k = rw k

pub first-unknown : (b : List ℕ) (i : ℕ) (rs : List ℕ) → kind b i ≡ Unknown → first (cells (kind b i) b i rs) ≡ absent
unfolding first cells
first-unknown b i rs k = rw k

-- ---- second buffers

module _ (b : List ℕ) (i : ℕ) (rs : List ℕ) where
  pub second-sizes-are : {k : Kind} {w : ℕ} → Sizes k w → second (cells k b i rs) ≡ holds (entries_of w b (second_at b i + w * skip b i) rs)
  unfolding cells
  second-sizes-are sizes32 = second-of-ranges 4 b i rs _
  second-sizes-are sizes64 = second-of-ranges 8 b i rs _

size-sizes : {k : Kind} {w : ℕ} → Sizes k w → (n l : ℕ) → second_size k n l ≡ w * n
size-sizes sizes32 n l = refl
size-sizes sizes64 n l = refl

pub width-sizes : {k : Kind} {w : ℕ} → Sizes k w → w ≤ 1024
width-sizes sizes32 = omega arith
width-sizes sizes64 = omega arith

module _ (p : Picked) where
  pub sizes-lie : {w : ℕ} → Sizes (kind_of p) w → Entries w (b p) (second_at (b p) (i p) + w * skip (b p) (i p)) (reach p.sel)
  unfolding places
  sizes-lie {w} k =
      let lies = ((sound p).in_body (i p) p.inside).second in
      let size = size-sizes k (skip (b p) (i p) + rows (b p) (i p)) (second_length (b p) (i p)) in
      let table = (sound p).shape.table in
      let few = few-rows p in
      record {
        small = omega arith;
        inside = entries-after w (length (b p)) (second_at (b p) (i p)) (skip (b p) (i p)) (rows (b p) (i p)) 0 (reach p.sel) (omega arith) p.short;
      }

-- the kinds that have none
pub second-absent : (b : List ℕ) (i : ℕ) (rs : List ℕ) (k : Kind) → (k ≡ Bytes32 → ⊥) → (k ≡ Bytes64 → ⊥) → (k ≡ Lists32 → ⊥) → (k ≡ Lists64 → ⊥) → second (cells k b i rs) ≡ absent
unfolding second cells
second-absent b i rs BitsKind f g h j = refl
second-absent b i rs Native f g h j = refl
second-absent b i rs Fixed f g h j = refl
second-absent b i rs Bytes32 f g h j = absurd (f refl)
second-absent b i rs Bytes64 f g h j = absurd (g refl)
second-absent b i rs Views f g h j = refl
second-absent b i rs Lists32 f g h j = absurd (h refl)
second-absent b i rs Lists64 f g h j = absurd (j refl)
second-absent b i rs Runs f g h j = refl
second-absent b i rs Struct f g h j = refl
second-absent b i rs Union f g h j = refl
second-absent b i rs Dictionary f g h j = refl
second-absent b i rs Nested32 f g h j = refl
second-absent b i rs Nested64 f g h j = refl
second-absent b i rs Unknown f g h j = refl
