-- An extract's items are bytes where its journal's are, so what holds of a journal of bytes holds of its extract. Assumes nothing.
use Prim.Native.Nat.{ℕ, zero, suc, ◌-◌, ◌^◌, ◌/◌, ◌%◌, ◌≤◌, ◌<◌}
use mathlib.Core.Bool.{Bool, true, false}
use mathlib.Core.List.{List, [], ◌∷◌, ◌++◌, map}
use native.Mathlib.Nat.{mod-lt}
use native.Mathlib.Omega.{arith}
use lib.Dec.{lit<}
use lib.ListN.{length, get_or, take, drop, replicate}
use Rattle.format.specs.declared.Kind.{Kind}
use Rattle.format.specs.declared.Kind.TheVariants.{Bits, Native, Fixed, Bytes32, Bytes64, Views, Lists32, Lists64, Runs, Struct, Union, Dictionary, Nested32, Nested64, Unknown}
use Rattle.format.specs.Bytes.{table, join, to_le, bytes_at, packed, raised, padded}
use Rattle.format.specs.Node.{node_count, rows}
use Rattle.format.specs.Kept.{columns, kept_node, kept_part, kept_rows, cells, first_entry, second_entry, own_bytes}
use Rattle.format.specs.Write.{Buffer, absent, holds, any_null, bitmap, first, second, numbers, with, written, add_node, write, extract}
use Rattle.format.proofs.Measure.{length-columns}
use Rattle.format.proofs.PackedLaws.{packed-word}
use Rattle.roundtrip.specs.Back.{Extracted, all_rows}
use Rattle.roundtrip.specs.Placed.{body_at}
use Rattle.roundtrip.proofs.Again.{node_at-is}
use Rattle.roundtrip.proofs.Rows.{chosen-rows}
use Rattle.roundtrip.proofs.Roundtrip.{read_back}

-- each item is a byte
pub data Octets : List ℕ → Type 0 where
  none : Octets []
  more : {x : ℕ} {xs : List ℕ} → x < 256 → Octets xs → Octets (x ∷ xs)

octets-of : (xs : List ℕ) → ((k : ℕ) → get_or xs k 0 < 256) → Octets xs
octets-of [] h = none
octets-of (x ∷ xs) h = more (h 0) (octets-of xs (λ k. h (suc k)))

pub octet-at : {xs : List ℕ} → Octets xs → (k : ℕ) → get_or xs k 0 < 256
octet-at none k = lit< tt
octet-at (more h g) zero = h
octet-at (more h g) (suc k) = octet-at g k

pub octets-append : {xs ys : List ℕ} → Octets xs → Octets ys → Octets (xs ++ ys)
octets-append none g = g
octets-append (more l h) g = more l (octets-append h g)

octets-take : (n : ℕ) {xs : List ℕ} → Octets xs → Octets (take n xs)
octets-take zero h = none
octets-take (suc n) none = none
octets-take (suc n) (more l h) = more l (octets-take n h)

octets-drop : (n : ℕ) {xs : List ℕ} → Octets xs → Octets (drop n xs)
octets-drop zero h = h
octets-drop (suc n) none = none
octets-drop (suc n) (more l h) = octets-drop n h

octets-part : (b : List ℕ) (at w : ℕ) → Octets b → Octets (bytes_at b at w)
unfolding bytes_at
octets-part b at w h = octets-take w (octets-drop at h)

octets-table : (f : ℕ → ℕ) (n : ℕ) → ((j : ℕ) → f j < 256) → Octets (table f n)
unfolding table
octets-table f zero h = none
octets-table f (suc n) h = octets-append (octets-table f n h) (more (h n) none)

octets-join : (f : ℕ → List ℕ) (ns : List ℕ) → ((n : ℕ) → Octets (f n)) → Octets (join (map f ns))
unfolding join
octets-join f [] h = none
octets-join f (n ∷ ns) h = octets-append (h n) (octets-join f ns h)

octets-to_le : (w n : ℕ) → Octets (to_le w n)
unfolding to_le
octets-to_le w n = octets-table (λ j. n / 256 ^ j % 256) w (λ j. mod-lt (n / 256 ^ j) (lit< tt))

pub octets-numbers : (w : ℕ) (ns : List ℕ) → Octets (numbers w ns)
unfolding numbers
octets-numbers w ns = octets-join (to_le w) ns (octets-to_le w)

octets-packed : (bs : List Bool) → Octets (packed bs)
octets-packed bs = rw packed-word (octets-to_le _ _)

octets-zeros : (n : ℕ) → Octets (replicate n 0)
octets-zeros zero = none
octets-zeros (suc n) = more (lit< tt) (octets-zeros n)

pub octets-padded : {xs : List ℕ} → Octets xs → Octets (padded xs)
unfolding padded
octets-padded {xs} h = octets-append h (octets-zeros (raised (length xs) - length xs))

-- what a node's buffers hold
abbrev Held : Buffer → Type 0
Held absent = Unit {0}
Held (holds x) = Octets x

octets-with : {body : List ℕ} (f : Buffer) → Octets body → Held f → Octets (with body f)
unfolding with
octets-with absent h g = h
octets-with (holds x) h g = octets-append (octets-padded h) g

held-bitmap : (vs : List Bool) → Held (bitmap vs)
unfolding bitmap
held-bitmap vs = go (any_null vs)
  where
    go : (t : Bool) → Held (mathlib.Core.Bool.cond t (holds (packed vs)) absent)
    go true = octets-packed vs
    go false = tt

module _ (b : List ℕ) (h : Octets b) (i : ℕ) (rs : List ℕ) where
  held-entries : (w : ℕ) → Octets (join (map (first_entry w b i) rs))
  unfolding first_entry
  held-entries w = octets-join (first_entry w b i) rs (λ r. octets-part b _ w h)

  held-seconds : (w : ℕ) → Octets (join (map (second_entry w b i) rs))
  unfolding second_entry
  held-seconds w = octets-join (second_entry w b i) rs (λ r. octets-part b _ w h)

  held-texts : (w : ℕ) → Octets (join (map (own_bytes w b i) rs))
  unfolding own_bytes
  held-texts w = octets-join (own_bytes w b i) rs (λ r. octets-part b _ _ h)

  held_first : (k : Kind) → Held (first (cells k b i rs))
  unfolding cells first
  held_first Bits = octets-packed _
  held_first Native = held-entries _
  held_first Fixed = held-entries _
  held_first Bytes32 = octets-numbers 4 _
  held_first Bytes64 = octets-numbers 8 _
  held_first Views = held-entries 16
  held_first Lists32 = held-entries 4
  held_first Lists64 = held-entries 8
  held_first Runs = octets-numbers _ _
  held_first Struct = tt
  held_first Union = held-entries 1
  held_first Dictionary = held-entries _
  held_first Nested32 = octets-numbers 4 _
  held_first Nested64 = octets-numbers 8 _
  held_first Unknown = tt

  held-second : (k : Kind) → Held (second (cells k b i rs))
  unfolding cells second
  held-second Bits = tt
  held-second Native = tt
  held-second Fixed = tt
  held-second Bytes32 = held-texts 4
  held-second Bytes64 = held-texts 8
  held-second Views = tt
  held-second Lists32 = held-seconds 4
  held-second Lists64 = held-seconds 8
  held-second Runs = tt
  held-second Struct = tt
  held-second Union = tt
  held-second Dictionary = tt
  held-second Nested32 = tt
  held-second Nested64 = tt
  held-second Unknown = tt

module _ {b rs : List ℕ} (x : Extracted b rs) where
  octets-journal : Octets b
  octets-journal = octets-of b x.bytes

  octets-body : (n : ℕ) → n ≤ node_count b → Octets (body_at (columns b) (kept_part b rs) n)
  unfolding written add_node kept_node
  octets-body zero l = none
  octets-body (suc n) l =
      rw (node_at-is x n l)
      (octets-with _
      (octets-with _ (octets-with _ (octets-body n (omega arith)) (held-bitmap _)) (held_first b octets-journal n (kept_rows b rs n) _))
      (held-second b octets-journal n (kept_rows b rs n) _))

  octets-nodes : (n : ℕ) → Octets (written (columns b) (kept_part b rs) n).nodes
  unfolding written add_node
  octets-nodes zero = none
  octets-nodes (suc n) = octets-append (octets-nodes n) (octets-numbers 4 _)

  octets-extract : Octets (extract b rs)
  unfolding extract write
  octets-extract =
      octets-append
      (octets-append (octets-padded (octets-body (length (columns b)) (rw (length-columns b) (omega arith)))) (octets-nodes (length (columns b))))
      (octets-numbers 4 _)

  -- the extract is a journal like any other, and so is its extract
  pub extracted-again : Extracted (extract b rs) (all_rows (rows (extract b rs) 0))
  extracted-again =
      let back = read_back x in
      record {
        accepted = back.accepted;
        bytes = λ k. octet-at octets-extract k;
        picked = chosen-rows (rows (extract b rs) 0);
        short = rw back.same_extract x.short;
      }
