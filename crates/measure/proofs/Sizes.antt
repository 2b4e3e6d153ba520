-- The length of an extract is a sum over counts. Assumes nothing.
use Prim.Native.Nat.{ℕ, zero, suc, ◌+◌, ◌*◌, ◌^◌, ◌≤◌, ◌<◌}
use mathlib.Core.Bool.{Bool, true, false, cond}
use mathlib.Core.List.{List, [], ◌∷◌, map, map-append, append-nil}
use mathlib.Core.Path.{◌≡◌, refl, sym, ap, ◌∙◌}
use native.Mathlib.Nat.{mul-zero, mul-suc, mul-one, one-mul, mul-add, mul-le-mul_left, mul-le-mul}
use native.Mathlib.Omega.{arith}
use lib.ListN.{length, length-append, length-take, length-drop, length-map}
use Rattle.format.specs.Bytes.{join, chosen, bytes_for, packed, bytes_at, raised}
use Rattle.format.specs.declared.Kind.{Kind}
use Rattle.format.specs.declared.Kind.TheVariants.{Bits, Native, Fixed, Bytes32, Bytes64, Views, Lists32, Lists64, Runs, Struct, Union, Dictionary, Nested32, Nested64, Unknown}
use Rattle.format.specs.Node.{node_count, kind, param, rows, skip, places, first_at, second_at, second_length, valid}
use Rattle.format.specs.Verdict.{layout, first_size, second_size}
use Rattle.format.specs.Kept.{kept_node, kept_rows, kept_runs, cells, first_entry, second_entry, span_size}
use Rattle.format.specs.Write.{absent, holds, any_null, bitmap, numbers, offsets, ends, first, second, data_length, no_node, extract}
use Rattle.format.proofs.Laws.{join-append, length-table, kept_at}
use Rattle.format.specs.Size.{grown_if, body_size, pack_size, buffer_size, node_size}
use Rattle.format.proofs.Measure.{grown, extract-size, length-numbers, length-packed}
use Rattle.nesting.specs.Rows.{between, Sifted}
use Rattle.measure.specs.Size.{body_end}

-- The body, node by node

module _ (b root : List ℕ) where
  -- the extract's length, and where its table starts
  pub extract-length : length (extract b root) ≡ raised (body_end b root (node_count b)) + 40 * node_count b + 16
  unfolding pack_size
  extract-length = extract-size b root

  pub body-none : body_end b root 0 ≡ 0
  unfolding body_size
  body-none = refl

  pub body_more : (i : ℕ) → i < node_count b
      → body_end b root (suc i)
      ≡ grown
      (grown (grown (body_end b root i) (bitmap (map (valid b i) (kept_rows b root i)))) (first (cells (kind b i) b i (kept_rows b root i))))
      (second (cells (kind b i) b i (kept_rows b root i)))
  unfolding body_size node_size kept_node
  body_more i h = rw (kept_at b root i no_node h)

-- The buffers of a node

held : (at : ℕ) (x : List ℕ) {n : ℕ} → length x ≡ n → grown at (holds x) ≡ grown_if at true n
unfolding buffer_size
held at x e = rw e

gone : (at n : ℕ) → grown at absent ≡ grown_if at false n
unfolding buffer_size grown_if
gone at n = refl

pub bitmap-grows : (at : ℕ) (vs : List Bool) → grown at (bitmap vs) ≡ grown_if at (any_null vs) (bytes_for (length vs))
unfolding bitmap
bitmap-grows at vs = go (any_null vs)
  where
    go : (t : Bool) → grown at (cond t (holds (packed vs)) absent) ≡ grown_if at t (bytes_for (length vs))
    go true = held at (packed vs) (length-packed vs)
    go false = gone at (bytes_for (length vs))

-- entries of w bytes each
join_last : (f : ℕ → List ℕ) (w n : ℕ) (t : Bool) → length (f n) ≡ w → length (join (map f (cond t (n ∷ []) []))) ≡ w * length (cond t (n ∷ []) [])
unfolding join
join_last f w n true e = rw (append-nil (f n), e) (sym (mul-one w))
join_last f w n false e = sym (mul-zero w)

join-none : (f : ℕ → List ℕ) (w : ℕ) → length (join (map f [])) ≡ w * 0
unfolding join
join-none f w = sym (mul-zero w)

join-same : (p : ℕ → Bool) (f : ℕ → List ℕ) (w n : ℕ) → ((r : ℕ) → r < n → length (f r) ≡ w) → length (join (map f (chosen p n))) ≡ w * length (chosen p n)
unfolding chosen
join-same p f w zero h = join-none f w
join-same p f w (suc n) h =
    rw
    (map-append, join-append (map f (chosen p n)), length-append (join (map f (chosen p n))), length-append (chosen p n), mul-add w (length (chosen p n)), join-same p f w n (λ r l. h r (omega arith)))
    (ap (λ (k : ℕ). w * length (chosen p n) + k) (join_last f w n (p n) (h n (omega arith))))

entry-size : (b : List ℕ) (i at w r : ℕ) → at + w * places b i ≤ length b → r < rows b i → length (bytes_at b (at + w * (skip b i + r)) w) ≡ w
unfolding bytes_at places
entry-size b i at w r h l =
    let up : w * suc (skip b i + r) ≤ w * (skip b i + rows b i) = mul-le-mul_left w (omega arith) in
    let all : w * (skip b i + r) + w ≤ w * (skip b i + rows b i) = rw (mul-suc w (skip b i + r)) at up in
    simp (length-take, length-drop) (omega arith)

module _ (b : List ℕ) (i : ℕ) (rs : List ℕ) (s : Sifted rs (rows b i)) where
  entries-size : (at w : ℕ) → at + w * places b i ≤ length b → length (join (map (λ r. bytes_at b (at + w * (skip b i + r)) w) rs)) ≡ w * length rs
  entries-size at w h =
      ap (λ (xs : List ℕ). length (join (map (λ r. bytes_at b (at + w * (skip b i + r)) w) xs))) s.is
      ∙ join-same (λ r. between rs r (suc r)) (λ r. bytes_at b (at + w * (skip b i + r)) w) w (rows b i) (λ r l. entry-size b i at w r h l)
      ∙ ap (λ (xs : List ℕ). w * length xs) (sym s.is)

  first-size : (w : ℕ) → first_at b i + w * places b i ≤ length b → length (join (map (first_entry w b i) rs)) ≡ w * length rs
  unfolding first_entry
  first-size w h = entries-size (first_at b i) w h

  second-size : (w : ℕ) → second_at b i + w * places b i ≤ length b → length (join (map (second_entry w b i) rs)) ≡ w * length rs
  unfolding second_entry
  second-size w h = entries-size (second_at b i) w h

  module _ (at c : ℕ) where
    offsets-size : (w : ℕ) (f : ℕ → List ℕ) → length (numbers w (offsets (map length (map f rs)))) ≡ w * suc (length rs)
    unfolding offsets
    offsets-size w f = length-numbers w _ ∙ ap (λ (n : ℕ). w * n) (length-table _ _ ∙ simp length-map)

    spans-size : (w : ℕ) → length (numbers w (offsets (map (span_size w b i) rs))) ≡ w * suc (length rs)
    unfolding offsets
    spans-size w = length-numbers w _ ∙ ap (λ (n : ℕ). w * n) (length-table _ _ ∙ simp length-map)

    -- the first buffer, by kind: as many bytes as a column of so many rows, and so many runs, has
    pub first-grows : (k : Kind) → (k ≡ Unknown → ⊥) → first_at b i + first_size k (param b i) (places b i) c ≤ length b
        → grown at (first (cells k b i rs)) ≡ grown_if at (layout k).first (first_size k (param b i) (length rs) (length (kept_runs b i rs)))
    unfolding cells first ends
    first-grows Bits u h = held at _ (length-packed _ ∙ ap bytes_for (length-map rs _))
    first-grows Native u h = held at _ (first-size (param b i) h)
    first-grows Fixed u h = held at _ (first-size (param b i) h)
    first-grows Bytes32 u h = held at _ (offsets-size 4 _)
    first-grows Bytes64 u h = held at _ (offsets-size 8 _)
    first-grows Views u h = held at _ (first-size 16 h)
    first-grows Lists32 u h = held at _ (first-size 4 h)
    first-grows Lists64 u h = held at _ (first-size 8 h)
    first-grows Runs u h = held at _ (length-numbers (param b i) _ ∙ ap (λ (n : ℕ). param b i * n) (length-table _ _ ∙ simp length-map))
    first-grows Struct u h = gone at _
    first-grows Union u h = held at _ (first-size 1 (omega arith) ∙ one-mul (length rs))
    first-grows Dictionary u h = held at _ (first-size (param b i) h)
    first-grows Nested32 u h = held at _ (spans-size 4)
    first-grows Nested64 u h = held at _ (spans-size 8)
    first-grows Unknown u h = absurd (u refl)

  -- the second buffer, by kind
  pub second-grows : (at : ℕ) (k : Kind) → (k ≡ Unknown → ⊥) → second_at b i + second_size k (places b i) (second_length b i) ≤ length b
      → grown at (second (cells k b i rs)) ≡ grown_if at (layout k).second (second_size k (length rs) (data_length (cells k b i rs)))
  unfolding cells second data_length
  second-grows at Bits u h = gone at _
  second-grows at Native u h = gone at _
  second-grows at Fixed u h = gone at _
  second-grows at Bytes32 u h = held at _ refl
  second-grows at Bytes64 u h = held at _ refl
  second-grows at Views u h = gone at _
  second-grows at Lists32 u h = held at _ (second-size 4 h)
  second-grows at Lists64 u h = held at _ (second-size 8 h)
  second-grows at Runs u h = gone at _
  second-grows at Struct u h = gone at _
  second-grows at Union u h = gone at _
  second-grows at Dictionary u h = gone at _
  second-grows at Nested32 u h = gone at _
  second-grows at Nested64 u h = gone at _
  second-grows at Unknown u h = absurd (u refl)

-- None is long
