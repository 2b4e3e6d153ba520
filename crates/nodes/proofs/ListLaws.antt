-- The first buffer of a list's kept rows as the writers write it, and that its rows lie in the journal. Assumes nothing.
use Prim.Native.Nat.{ℕ, suc, ◌+◌, ◌*◌, ◌≤◌, ◌<◌}
use mathlib.Core.Bool.{true, false}
use mathlib.Core.List.{List, [], ◌∷◌, ◌++◌, map, map_congr_left}
use mathlib.Core.Logic.{◌⊎◌, inl, inr}
use mathlib.Core.Path.{◌≡◌, refl, sym, ap, ap₂, ◌∙◌}
use native.Mathlib.Nat.{add_assoc, add-suc, mul-sub}
use native.Mathlib.Omega.{arith}
use lib.ListN.{length}
use Rattle.format.specs.declared.Kind.{Kind}
use Rattle.format.specs.Accepted.{Nests, OneChild}
use Rattle.format.specs.Accepted as Accepted
use Rattle.format.specs.Bytes.{join, bit_at, bytes_at}
use Rattle.format.specs.Kept.{cells, span_size, span, kept_spans}
use Rattle.format.specs.Node.{kind, param, rows, skip, places, first_at, validity_at, has_no_bitmap, valid, first_number, child, node_count}
use Rattle.format.specs.Verdict.{one_of}
use Rattle.format.specs.Write.{holds, first, numbers, offsets}
use Rattle.format.proofs.Numbers.{bytes_same}
use Rattle.append.specs.Cells.{entries_of}
use Rattle.append.proofs.CellLaws.{entries_none, entries-append, entries-run}
use Rattle.texts.specs.Texts.{offset, start_in, size, sizes_of, texts_of, Offsets, Texts}
use Rattle.texts.proofs.TextLaws.{texts-none, texts-more}
use Rattle.texts.proofs.NodeLaws.{first-offset}
use Rattle.list_columns.specs.Spans.{span_at, span_start, Spans}
use Rattle.list_columns.proofs.SpanLaws.{start-size}
use Rattle.pack.specs.declared.Node.{Node}
use Rattle.pack.specs.Read.{node_of}
use Rattle.predicate.specs.Selection.{reach}
use Rattle.nodes.specs.declared.picked.Picked.{Picked}
use Rattle.nodes.specs.Place.{Copies}
use Rattle.nodes.specs.Rows.{kind_of, values_of}
use Rattle.nodes.proofs.NullLaws.{from_is}
use Rattle.nodes.proofs.BufferLaws.{b, i, rs, sound, entries-after, first-copies, size-copies, width-copies}

-- ---- widths

pub nests-narrow : {w : ℕ} {k : Kind} → Nests w k → w ≤ 1024
nests-narrow Accepted.Nests.nested32 = omega arith
nests-narrow Accepted.Nests.nested64 = omega arith

pub nests-wide : {w : ℕ} {k : Kind} → Nests w k → (w ≡ 4 → ⊥) → w ≡ 8
nests-wide Accepted.Nests.nested32 f = absurd (f refl)
nests-wide Accepted.Nests.nested64 f = refl

nests-width : {w : ℕ} {k : Kind} → Nests w k → one_of (2 ∷ 4 ∷ 8 ∷ []) w ≡ true
unfolding one_of
nests-width Accepted.Nests.nested32 = refl
nests-width Accepted.Nests.nested64 = refl

nests-one : {w : ℕ} {k : Kind} → Nests w k → OneChild k
nests-one Accepted.Nests.nested32 = Accepted.OneChild.nested32
nests-one Accepted.Nests.nested64 = Accepted.OneChild.nested64

nests-either : {w : ℕ} {k : Kind} → Nests w k → (w ≡ 4) ⊎ (w ≡ 8)
nests-either Accepted.Nests.nested32 = inl refl
nests-either Accepted.Nests.nested64 = inr refl

-- ---- sizes

module _ (b : List ℕ) (i : ℕ) (rs : List ℕ) where
  pub first-spans-are : {w : ℕ} {k : Kind} → Nests w k → first (cells k b i rs) ≡ holds (numbers w (offsets (map (span_size w b i) rs)))
  unfolding first cells
  first-spans-are Accepted.Nests.nested32 = refl
  first-spans-are Accepted.Nests.nested64 = refl

module _ (w : ℕ) (b : List ℕ) (i : ℕ) where
  -- without a bitmap a row's size is as a byte column's
  size-plain : has_no_bitmap b i ≡ true → (r : ℕ) → span_size w b i r ≡ size (offset w b (first_at b i + w * skip b i)) r
  unfolding span_size valid size
  size-plain h r = rw (h, first-offset w b i r, first-offset w b i (suc r))

  pub sizes-plain : has_no_bitmap b i ≡ true → (rs : List ℕ) → map (span_size w b i) rs ≡ sizes_of (offset w b (first_at b i + w * skip b i)) rs
  unfolding sizes_of
  sizes-plain h rs = map_congr_left {l = rs} (λ r _. size-plain h r)

  -- and with one it is by the row's bit
  size-marked : has_no_bitmap b i ≡ false → (r : ℕ) → span_size w b i r ≡ span_at w b (first_at b i + w * skip b i) (8 * validity_at b i + skip b i) r
  unfolding span_size span_at valid bit_at size
  size-marked h r = rw (h, first-offset w b i r, first-offset w b i (suc r), add_assoc)

  pub sizes-marked : has_no_bitmap b i ≡ false → (rs : List ℕ) → map (span_size w b i) rs ≡ sizes_of (span_start w b (first_at b i + w * skip b i) (8 * validity_at b i + skip b i)) rs
  unfolding sizes_of
  sizes-marked h rs = map_congr_left {l = rs} (λ r _. size-marked h r ∙ sym (start-size w b _ _ r))

-- ---- the entries of a list's child

-- without a bitmap the entries of the kept child rows are what the list's rows have of their own
module _ (u w : ℕ) (b : List ℕ) (i start : ℕ) (h : has_no_bitmap b i ≡ true) where
  abbrev o : ℕ → ℕ
  o = start_in u w b (first_at b i + w * skip b i)

  scaled : (r : ℕ) → u * span_size w b i r ≡ size o r
  unfolding size start_in
  scaled r = ap (u *◌) (size-plain w b i h r) ∙ mul-sub u _ _

  span-entries : (r : ℕ) → entries_of u b start (span w b i r) ≡ bytes_at b (start + o r) (size o r)
  unfolding span start_in
  span-entries r =
      entries-run u b start (span_size w b i r) (first_number w b i r)
      ∙ bytes_same b _ _ _ _ (ap (λ (x : ℕ). start + u * x) (sym (first-offset w b i r))) (scaled r)

  pub span-texts : (rs : List ℕ) → entries_of u b start (kept_spans w b i rs) ≡ texts_of o b start rs
  unfolding kept_spans join
  span-texts [] = entries_none u b start [] refl ∙ sym (texts-none o b start [] refl)
  span-texts (r ∷ rs) =
      entries-append u b start (span w b i r) (kept_spans w b i rs)
      ∙ ap₂ ◌++◌ (span-entries r) (span-texts rs)
      ∙ sym (texts-more o b start refl)

-- ---- the rows of a node

module _ (p : Picked) {w : ℕ} (k : Nests w (kind_of p)) where
  is : Accepted.Spans w (b p) (i p)
  is = (sound p).spans w (i p) p.inside k

  pub list-offsets : Offsets w (b p) (first_at (b p) (i p) + w * skip (b p) (i p)) (reach p.sel)
  unfolding places
  list-offsets =
      let table = (sound p).shape.table in
      let lie = is.lie in
      let short = p.short in
      record {
        inside = entries-after w (length (b p)) (first_at (b p) (i p)) (skip (b p) (i p)) (suc (rows (b p) (i p))) 0 (suc (reach p.sel)) (rw add-suc (omega arith)) (omega arith);
        rising = λ r l. rw (first-offset w (b p) (i p) r, first-offset w (b p) (i p) (suc r)) (is.rise r (omega arith));
      }

  few-places : places (b p) (i p) ≤ 1_048_576
  few-places = (sound p).agree.limit (i p) p.inside

  pub list-spans : has_no_bitmap (b p) (i p) ≡ false → Spans w (b p) (first_at (b p) (i p) + w * skip (b p) (i p)) (8 * validity_at (b p) (i p) + skip (b p) (i p)) (reach p.sel)
  unfolding places
  list-spans h =
      let few = few-places in
      let lies = ((sound p).in_body (i p) p.inside).bitmap h in
      let table = (sound p).shape.table in
      let small = (sound p).shape.small in
      let short = p.short in
      let end = is.inside (reach p.sel) short in
      let kids = (sound p).agree.limit (child (i p)) ((sound p).shape.next (i p) p.inside (nests-one k)) in
      record {
        width = nests-width k;
        offsets = list-offsets;
        last = rw (first-offset w (b p) (i p) (reach p.sel)) (omega arith);
        small = omega arith;
      }

  -- ---- as the code asks and writes: without a bitmap as a byte column
  pub plain-lies : (place : ℕ) → place ≡ first_at (b p) (i p) + w * skip (b p) (i p) → Offsets w (b p) place (reach p.sel)
  plain-lies place at = rw at list-offsets

  pub first_plain : (place : ℕ) → place ≡ first_at (b p) (i p) + w * skip (b p) (i p) → has_no_bitmap (b p) (i p) ≡ true
      → first (values_of p) ≡ holds (numbers w (offsets (sizes_of (offset w (b p) place) (rs p))))
  first_plain place at h = first-spans-are (b p) (i p) (rs p) k ∙ rw at (ap (λ (l : List ℕ). holds (numbers w (offsets l))) (sizes-plain w (b p) (i p) h (rs p)))

  -- and with one by the bits from a node's fields on
  module _ (place : ℕ) (at : place ≡ first_at (b p) (i p) + w * skip (b p) (i p)) {node : Node} (fields : node ≡ node_of (b p) (i p)) (h : has_no_bitmap (b p) (i p) ≡ false) where
    pub marked-lies : Spans w (b p) place (8 * node.validity_at + node.skip) (reach p.sel)
    marked-lies = rw (at, from_is (b p) (i p) node fields) (list-spans h)

    pub first-marked : first (values_of p) ≡ holds (numbers w (offsets (sizes_of (span_start w (b p) place (8 * node.validity_at + node.skip)) (rs p))))
    first-marked =
        first-spans-are (b p) (i p) (rs p) k
        ∙ rw (at, from_is (b p) (i p) node fields) (ap (λ (l : List ℕ). holds (numbers w (offsets l))) (sizes-marked w (b p) (i p) h (rs p)))

  -- ---- the entries of the child, u bytes each, that the selected rows have
  pub child-in : suc (i p) < node_count (b p)
  child-in = (sound p).shape.next (i p) p.inside (nests-one k)

  module _ {u : ℕ} (c : Copies (kind (b p) (suc (i p))) (param (b p) (suc (i p))) u) where
    pub values-lie : Texts u w (b p) (first_at (b p) (i p) + w * skip (b p) (i p)) (first_at (b p) (suc (i p)) + u * skip (b p) (suc (i p))) (reach p.sel)
    unfolding places start_in
    values-lie =
        let lies = ((sound p).in_body (suc (i p)) child-in).first in
        let bytes = size-copies c (skip (b p) (suc (i p)) + rows (b p) (suc (i p))) (rows (b p) (child (suc (i p)))) in
        let table = (sound p).shape.table in
        let short = p.short in
        let last = is.inside (reach p.sel) short in
        record {
          width = nests-either k;
          offsets = list-offsets;
          within = rw (first-offset w (b p) (i p) (reach p.sel)) (entries-after u (length (b p)) (first_at (b p) (suc (i p))) (skip (b p) (suc (i p))) (rows (b p) (suc (i p))) 0 (first_number w (b p) (i p) (reach p.sel)) (omega arith) last);
        }

    pub child-narrow : u ≤ 1024
    child-narrow = width-copies c ((sound p).fields (suc (i p)) child-in).narrow

    pub first-values-are : has_no_bitmap (b p) (i p) ≡ true → first (cells (kind (b p) (suc (i p))) (b p) (suc (i p)) (kept_spans w (b p) (i p) (rs p)))
        ≡ holds (texts_of (start_in u w (b p) (first_at (b p) (i p) + w * skip (b p) (i p))) (b p) (first_at (b p) (suc (i p)) + u * skip (b p) (suc (i p))) (rs p))
    first-values-are h = first-copies (b p) (suc (i p)) (kept_spans w (b p) (i p) (rs p)) c ∙ ap holds (span-texts u w (b p) (i p) _ h (rs p))
