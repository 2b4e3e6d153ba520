-- Data bytes of rows of a node, by what lies between their offsets. Assumes nothing.
use Prim.Native.Nat.{ℕ, suc, ◌+◌, ◌-◌, ◌*◌, ◌≤◌, ◌<◌}
use mathlib.Core.Bool.{Bool, false}
use mathlib.Core.List.{List, [], ◌∷◌, map}
use mathlib.Core.Path.{◌≡◌, refl, sym, ap, ◌∙◌}
use mathlib.Core.Logic.{dite}
use native.Mathlib.Decide.{dec_le}
use native.Mathlib.Numerals.{add-one}
use native.Mathlib.Nat.{zero-add, mul-add, mul-suc, mul-le-mul_left}
use native.Mathlib.Omega.{arith}
use lib.ListN.{length, length-append, length-take, length-drop}
use Rattle.format.specs.Bytes.{chosen, join, bytes_at, le}
use Rattle.format.specs.Node.{node_count, rows, skip, places, first_at, second_length, first_number}
use Rattle.format.specs.Rows.{Below, none, more}
use Rattle.format.specs.Slots.{All}
use Rattle.format.specs.Kept.{kept_rows, own_bytes}
use Rattle.format.specs.Accepted.{Sound, Offsets}
use Rattle.format.proofs.RowLaws.{below-picks}
use Rattle.format.proofs.SlotLaws.{chosen-picks}
use Rattle.nesting.specs.declared.Counted.{Counted}
use Rattle.nesting.specs.Rows.{picks_in}
use Rattle.nesting.proofs.Between.{chosen_more}
use Rattle.nesting.proofs.ByKind.{rows-small}
use Rattle.nesting.proofs.Tree.{kept-all}
use Rattle.spans.specs.Spans.{offset_from, spans, Rises}
use Rattle.spans.proofs.Spanned.{picks-le}
use Rattle.spans.proofs.ByWords.{Laid, passed}
use Rattle.stretches.specs.Stretches.{bytes_in, kept_in}

-- a row's own bytes are as many as its offsets say
pub own-length : {b : List ℕ} {i w : ℕ} → Sound b → Offsets w b i → (r : ℕ) → r < rows b i → length (own_bytes w b i r) ≡ first_number w b i (r + 1) - first_number w b i r
unfolding own_bytes bytes_at
own-length s o r h =
    rw (add-one r) (simp (length-take, length-drop) (omega (arith, o.rise r h, o.inside (suc r) h, o.data_lies, s.shape.table)))

module _ {b : List ℕ} (sound : Sound b) {node : ℕ} (h : node < node_count b) {w first : ℕ} (e : first ≡ first_at b node + w * skip b node) (o : Offsets w b node) where
  -- where its offset stands, and what it is
  pub offset-lies : (r : ℕ) → r ≤ rows b node → first + w * r + w ≤ length b
  unfolding places
  offset-lies r l =
      omega (
        arith,
        e,
        mul-add w (skip b node) (rows b node),
        mul-le-mul_left w l,
        mul-suc w (skip b node + rows b node),
        o.lie,
        sound.shape.table,
      )

  offset-is : (r : ℕ) → offset_from w b first r ≡ first_number w b node r
  unfolding offset_from first_number
  offset-is r = ap (le w b) (let z : first + w * r ≡ first_at b node + w * (skip b node + r) = omega (arith, e, mul-add w (skip b node) r) in z)

  pub offsets-rise : Rises (offset_from w b first) (rows b node)
  offsets-rise = record { next = λ r l. rw (offset-is r, offset-is (suc r)) (o.rise r l) }

  pub offsets-laid : {len : ℕ} → len ≤ rows b node → Laid w b first len
  offsets-laid {len} l =
      record {
        small = omega (arith, rows-small sound node h);
        inside = omega (arith, offset-lies len l, mul-suc w len);
        mounts =
            record {
              up = record { next = λ r m. offsets-rise.next r (omega arith) };
              fits = omega (arith, offset-is len, o.inside len l, o.data_lies, sound.shape.table, sound.shape.small);
            };
      }

  -- what rows span is their own bytes
  spans-own : (rs : List ℕ) → Below (rows b node) rs → spans (offset_from w b first) rs ≡ length (join (map (own_bytes w b node) rs))
  unfolding spans join
  spans-own [] none = refl
  spans-own (r ∷ rs) (more l g) =
      let one : offset_from w b first (suc r) - offset_from w b first r ≡ length (own_bytes w b node r) = rw (offset-is (suc r), offset-is r, ← add-one r) (sym (own-length sound o r l)) in
      rw (length-append (own_bytes w b node r), one, spans-own rs g)

  -- picked rows have no more than the node
  pub own-picked : (p : ℕ → Bool) (n : ℕ) → n ≤ rows b node
      → (spans (offset_from w b first) (chosen p n) ≡ length (join (map (own_bytes w b node) (chosen p n)))) × (spans (offset_from w b first) (chosen p n) ≤ second_length b node)
  own-picked p n l =
      let below : Below (rows b node) (chosen p n) = rw (chosen-picks p n) (below-picks p (rows b node) n 0 (omega arith)) in
      let few = rw (zero-add n) at (picks-le (offset_from w b first) (rows b node) offsets-rise p n 0 (omega arith)) in
      let all : spans (offset_from w b first) (chosen p n) ≤ offset_from w b first n = rw (chosen-picks p n) (omega (arith, few)) in
      (spans-own (chosen p n) below, omega (arith, all, offset-is n, o.inside n l))

-- a node's kept rows
module _ (counted : Counted) {node : ℕ} (h : node < node_count (bytes_in counted)) {w first : ℕ} (e : first ≡ first_at (bytes_in counted) node + w * skip (bytes_in counted) node) (o : Offsets w (bytes_in counted) node) where
  pub own-kept : (spans (offset_from w (bytes_in counted) first) (kept_rows (bytes_in counted) (picks_in counted.source) node)
      ≡ length (join (map (own_bytes w (bytes_in counted) node) (kept_rows (bytes_in counted) (picks_in counted.source) node))))
      × (spans (offset_from w (bytes_in counted) first) (kept_rows (bytes_in counted) (picks_in counted.source) node) ≤ second_length (bytes_in counted) node)
  own-kept =
      let rooted = counted.ready.rooted in
      rw (kept-all (bytes_in counted) (picks_in counted.source) counted.ready.sound rooted node h)
      (own-picked counted.ready.sound h e o (kept_in counted node) (rows (bytes_in counted) node) (omega arith))

-- all words passed: no slot is picked from k up to n, nor from n on
pub all-passed : (o : ℕ → ℕ) (p : ℕ → Bool) {k n m : ℕ} → All p false k n → ((j : ℕ) → n ≤ j → p j ≡ false) → m ≡ spans o (chosen p k) → m ≡ spans o (chosen p n)
all-passed o p {k} {n} blank past e = dite (dec_le k n) (λ l. passed o l blank e) (λ l. e ∙ ap (spans o) (chosen_more p n k (omega arith) past))
