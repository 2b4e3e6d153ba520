-- A list node: where its offsets and validity bits stand, and the search for a row by them. Assumes nothing.
use Prim.Native.Nat.{ℕ, zero, suc, ◌+◌, ◌-◌, ◌*◌, ◌≤◌, ◌<◌}
use mathlib.Core.Bool.{Bool, true, false}
use mathlib.Core.List.{List, [], ◌∷◌}
use mathlib.Core.Path.{◌≡◌, refl, ap, ◌∙◌}
use native.Mathlib.Nat.{add_assoc, mul-add, mul-suc, mul-le-mul_left}
use native.Mathlib.Omega.{arith}
use lib.ListN.{length}
use Rattle.format.specs.declared.Kind.{Kind}
use Rattle.format.specs.Bytes.{le, bit_in, bit_at}
use Rattle.format.specs.Node.{node_count, rows, skip, places, first_at, validity_at, has_no_bitmap, valid, first_number}
use Rattle.format.specs.Node.{parent}
use Rattle.format.specs.Kept.{kept_rows, kept_spans}
use Rattle.format.specs.Verdict.{pack_limit, one_of}
use Rattle.format.specs.Accepted.{Nests, Spans}
use Rattle.format.specs.Accepted as is
use Rattle.nesting.specs.Rows.{AtList}
use Rattle.nesting.proofs.Tree.{one-of, kept-spans-of}
use Rattle.nesting.proofs.ByKind.{rows-small, skip-small}

wide : {w : ℕ} {k : Kind} → Nests w k → one_of (2 ∷ 4 ∷ 8 ∷ []) w ≡ true
unfolding one_of
wide is.Nests.nested32 = refl
wide is.Nests.nested64 = refl

module _ {b : List ℕ} {w i : ℕ} (a : AtList b w i) where
  pub list-few : i < 64
  list-few = omega (arith, a.sound.shape.few, a.inside)

  pub list-wide : one_of (2 ∷ 4 ∷ 8 ∷ []) w ≡ true
  list-wide = wide a.is_list

  pub list-spans : Spans w b i
  list-spans = a.sound.spans w i a.inside a.is_list

  pub rows_few : rows b i ≤ 1_048_576
  rows_few = rows-small a.sound i a.inside

  -- its child
  pub child-in : suc i < node_count b
  child-in = a.sound.shape.next i a.inside (one-of a.is_list)

  -- it keeps the child rows of the list's kept rows
  pub child-kept : (root : List ℕ) → kept_rows b root (suc i) ≡ kept_spans w b i (kept_rows b root i)
  child-kept root =
      let up : parent b (suc i) ≡ i = a.sound.shape.under i a.inside (one-of a.is_list) in
      rw up at (kept-spans-of b root (suc i) (omega arith) w (rw up a.is_list))

  pub child-low : suc i < 64
  child-low = omega (arith, child-in, a.sound.shape.few)

  pub child-few : rows b (suc i) ≤ 1_048_576
  child-few = rows-small a.sound (suc i) child-in

  pub skip-few : skip b i ≤ 1_048_576
  skip-few = skip-small a.sound i a.inside

  pub pack-few : length b ≤ pack_limit
  pack-few = a.sound.shape.small

  -- offset r, counted from that of row 0 on
  pub start-lies : {first : ℕ} → first ≡ first_at b i + w * skip b i → (r : ℕ) → r ≤ rows b i → first + w * r + w ≤ length b
  unfolding places
  start-lies e r l =
      omega (
        arith,
        e,
        mul-add w (skip b i) (rows b i),
        mul-le-mul_left w l,
        mul-suc w (skip b i + rows b i),
        list-spans.lie,
        a.sound.shape.table,
      )

  pub start-read : {first : ℕ} → first ≡ first_at b i + w * skip b i → (r : ℕ) {x : ℕ} → x ≡ le w b (first + w * r) → x ≡ first_number w b i r
  unfolding first_number
  start-read {first} e r f = f ∙ ap (le w b) (let g : first + w * r ≡ first_at b i + w * (skip b i + r) = omega (arith, e, mul-add w (skip b i) r) in g)

  -- validity bit r
  pub valid-none : has_no_bitmap b i ≡ true → (r : ℕ) → true ≡ valid b i r
  unfolding valid
  valid-none e r = rw e

  module _ (e : has_no_bitmap b i ≡ false) where
    pub validity-few : validity_at b i ≤ pack_limit
    validity-few = omega (arith, (a.sound.in_body i a.inside).bitmap e, a.sound.shape.table, pack-few)

    pub valid-read : {first : ℕ} → first ≡ 8 * validity_at b i + skip b i → (r : ℕ) {t : Bool} → t ≡ bit_in b (first + r) → t ≡ valid b i r
    unfolding valid bit_at
    valid-read q r f = f ∙ rw (e, q) (ap (bit_in b) (add_assoc (8 * validity_at b i) (skip b i) r))

  -- offsets do not fall
  pub starts-rise : (d k : ℕ) → k + d ≤ rows b i → first_number w b i k ≤ first_number w b i (k + d)
  starts-rise zero k l = let e : k + 0 ≡ k = omega arith in rw e (omega arith)
  starts-rise (suc d) k l = let e : k + suc d ≡ suc (k + d) = omega arith in rw e (omega (arith, starts-rise d k (omega arith), list-spans.rise (k + d) (omega arith)))

  pub rise-to : (k m : ℕ) → k ≤ m → m ≤ rows b i → first_number w b i k ≤ first_number w b i m
  rise-to k m f g = let e : m ≡ k + (m - k) = omega arith in rw e (starts-rise (m - k) k (omega arith))
