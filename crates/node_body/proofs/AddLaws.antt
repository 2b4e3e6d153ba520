-- A node's three buffers one after the other are what it adds to the body; the size of its data. Assumes nothing.
use Prim.Native.Nat.{ℕ, ◌+◌, ◌-◌, ◌≤◌}
use mathlib.Core.Path.{◌≡◌, refl, sym, ◌∙◌}
use mathlib.Core.Bool.{true}
use mathlib.Core.List.{List, map}
use native.Mathlib.Omega.{arith}
use lib.ListN.{length, length-append}
use Rattle.format.specs.declared.Kind.{Kind}
use Rattle.format.specs.declared.Kind.TheVariants.{Bits as BitsKind, Native, Fixed, Bytes32, Bytes64, Views, Lists32, Lists64, Runs, Struct, Union, Dictionary, Nested32, Nested64, Unknown}
use Rattle.format.specs.Bytes.{join}
use Rattle.format.specs.Kept.{KeptNode, cells, own_bytes, kept_node}
use Rattle.format.specs.Node.{no_bitmap, has_no_bitmap, kind, valid}
use Rattle.format.specs.Write.{Buffer, absent, holds, nulls, bitmap, first, second, data_length}
use Rattle.format.proofs.NullLaws.{no-nulls}
use Rattle.format.proofs.Put.{then, same_size}
use Rattle.append.specs.Cells.{padding}
use Rattle.buffers.specs.Place.{appended, ending, start_of, Puts}
use Rattle.nodes.specs.Body.{node_body}
use Rattle.buffers.specs.declared.Placed.{Placed}
use Rattle.buffers.proofs.PutLaws.{pad-ends, puts_none}
use Rattle.nodes.specs.Place.{Copies, of_native, of_fixed, Flat, flat_native, flat_fixed}
use Rattle.nodes.proofs.NullLaws.{all_valid, bitmap-none}
use Rattle.node_body.specs.Added.{data_size, Added}

-- ---- one buffer

-- a buffer starts before the body's end, or rests
pub start-within : (rest at m : ℕ) (x : Buffer) → rest ≤ m → ending at x ≤ m → start_of rest at x ≤ m
unfolding start_of ending appended
start-within rest at m absent h l = h
start-within rest at m (holds x) h l = omega (arith, pad-ends at, length-append (padding at) x)

-- the bytes of a buffer lie between its start and the body's end
bytes-between : (at : ℕ) (x : List ℕ) → ending at (holds x) - start_of 0 at (holds x) ≡ length x
unfolding start_of ending appended
bytes-between at x = rw (length-append (padding at) x) (omega (arith, pad-ends at))

-- the kinds that have no data
pub no-data : (k : Kind) (start next : ℕ) → (k ≡ Bytes32 → ⊥) → (k ≡ Bytes64 → ⊥) → 0 ≡ data_size k start next
no-data BitsKind start next f g = refl
no-data Native start next f g = refl
no-data Fixed start next f g = refl
no-data Bytes32 start next f g = absurd (f refl)
no-data Bytes64 start next f g = absurd (g refl)
no-data Views start next f g = refl
no-data Lists32 start next f g = refl
no-data Lists64 start next f g = refl
no-data Runs start next f g = refl
no-data Struct start next f g = refl
no-data Union start next f g = refl
no-data Dictionary start next f g = refl
no-data Nested32 start next f g = refl
no-data Nested64 start next f g = refl
no-data Unknown start next f g = refl

module _ (b : List ℕ) (i : ℕ) (rs : List ℕ) (at : ℕ) where
  pub data-length : (k : Kind) → data_size k (start_of 0 at (second (cells k b i rs))) (ending at (second (cells k b i rs))) ≡ data_length (cells k b i rs)
  unfolding second data_length cells
  data-length BitsKind = refl
  data-length Native = refl
  data-length Fixed = refl
  data-length Bytes32 = bytes-between at (join (map (own_bytes 4 b i) rs))
  data-length Bytes64 = bytes-between at (join (map (own_bytes 8 b i) rs))
  data-length Views = refl
  data-length Lists32 = refl
  data-length Lists64 = refl
  data-length Runs = refl
  data-length Struct = refl
  data-length Union = refl
  data-length Dictionary = refl
  data-length Nested32 = refl
  data-length Nested64 = refl
  data-length Unknown = refl

module _ {rest : ℕ} {x : Buffer} {old : List ℕ} {at : ℕ} {new : List ℕ} {r : Placed} (p : Puts rest x old at new r) where
  -- the body ends behind it
  pub puts-end : r.next ≡ ending at x
  unfolding ending
  puts-end = p.wrote.place

pub puts-order : {x : Buffer} {old : List ℕ} {at : ℕ} {new : List ℕ} {r : Placed} → Puts 0 x old at new r → r.start ≤ r.next
puts-order {x} {at = at} p = rw (p.starts, puts-end p) (start-within 0 at (ending at x) x (omega arith) (omega arith))

-- ---- three buffers

pub body_end-is : (k : KeptNode) (at : ℕ) → at + length (node_body at k) ≡ ending (ending (ending at (bitmap k.marks)) (first k.values)) (second k.values)
unfolding node_body ending
body_end-is k at = simp length-append (omega arith)

-- there is room for each of them
module _ (b : List ℕ) (i : ℕ) (rs : List ℕ) (at : ℕ) (old : List ℕ) (fit : at + length (node_body at (kept_node b i rs)) ≤ length old) where
  sizes : at + length (node_body at (kept_node b i rs))
      ≡ ending (ending (ending at (bitmap (map (valid b i) rs))) (first (cells (kind b i) b i rs))) (second (cells (kind b i) b i rs))
  unfolding kept_node
  sizes = body_end-is (kept_node b i rs) at

  pub bitmap-room : at + length (appended at (bitmap (map (valid b i) rs))) ≤ length old
  unfolding ending
  bitmap-room = omega (arith, sizes)

  module _ {mid : List ℕ} {v : Placed} (p : Puts no_bitmap (bitmap (map (valid b i) rs)) old at mid v) where
    pub first-room : v.next + length (appended v.next (first (cells (kind b i) b i rs))) ≤ length mid
    unfolding ending
    first-room = rw (same_size p.wrote, puts-end p) (omega (arith, sizes))

    module _ {last : List ℕ} {f : Placed} (q : Puts 0 (first (cells (kind b i) b i rs)) mid v.next last f) where
      pub second-room : f.next + length (appended f.next (second (cells (kind b i) b i rs))) ≤ length last
      unfolding ending
      second-room = rw (same_size q.wrote, same_size p.wrote, puts-end q, puts-end p) (omega (arith, sizes))

-- and they are the node's body
module _ (b : List ℕ) (i : ℕ) (rs : List ℕ) {old : List ℕ} {at : ℕ} {mid last new : List ℕ} {v f d : Placed}
    (p : Puts no_bitmap (bitmap (map (valid b i) rs)) old at mid v)
    (q : Puts 0 (first (cells (kind b i) b i rs)) mid v.next last f)
    (r : Puts 0 (second (cells (kind b i) b i rs)) last f.next new d) where
  after_first : f.next ≡ ending (ending at (bitmap (map (valid b i) rs))) (first (cells (kind b i) b i rs))
  after_first = puts-end q ∙ rw (puts-end p)

  pub added : (k : Kind) (n c : ℕ) → k ≡ kind b i → n ≡ data_size k d.start d.next → c ≡ nulls (map (valid b i) rs)
      → Added (kept_node b i rs) old at new (record { validity = v.start; first = f.start; second = d.start; next = d.next; «data» = n; nulls = c })
  unfolding node_body kept_node
  added k n c e s m = record {
    wrote = rw (← after_first, ← puts-end p) (then p.wrote (then q.wrote r.wrote));
    bitmap_start = p.starts;
    first_start = rw (← puts-end p) q.starts;
    second_start = rw (← after_first) r.starts;
    size = s ∙ rw (e, r.starts, puts-end r) (data-length b i rs f.next (kind b i));
    counted = m;
  }

-- ---- one buffer alone

-- such entries copy their param bytes a row, and have no second buffer and no data
pub flat-copies : {k : Kind} {p : ℕ} → Flat k → Copies k p p
flat-copies flat_native = of_native
flat-copies flat_fixed = of_fixed

flat-second : (b : List ℕ) (i : ℕ) (rs : List ℕ) {k : Kind} → Flat k → second (cells k b i rs) ≡ absent
unfolding second cells
flat-second b i rs flat_native = refl
flat-second b i rs flat_fixed = refl

flat-size : {k : Kind} → Flat k → (start next : ℕ) → 0 ≡ data_size k start next
flat-size flat_native start next = refl
flat-size flat_fixed start next = refl

module _ (b : List ℕ) (i : ℕ) (rs : List ℕ) (f : Flat (kind b i)) (plain : has_no_bitmap b i ≡ true) where
  no-bitmap : bitmap (map (valid b i) rs) ≡ absent
  no-bitmap = bitmap-none _ (all_valid b i rs plain)

  no_second : second (cells (kind b i) b i rs) ≡ absent
  no_second = flat-second b i rs f

  -- there is room for it where there is for the node
  pub alone-room : (at : ℕ) (old : List ℕ) → at + length (node_body at (kept_node b i rs)) ≤ length old → at + length (appended at (first (cells (kind b i) b i rs))) ≤ length old
  alone-room at old fit = first-room b i rs at old fit (puts_none no-bitmap refl)

  pub alone : {old : List ℕ} {at : ℕ} {new : List ℕ} {r : Placed} → Puts 0 (first (cells (kind b i) b i rs)) old at new r
      → Added (kept_node b i rs) old at new (record { validity = no_bitmap; first = r.start; second = 0; next = r.next; «data» = 0; nulls = 0 })
  alone {r = r} q =
      added b i rs (puts_none no-bitmap refl) q (puts_none no_second refl) (kind b i) 0 0 refl (flat-size f 0 r.next) (sym (no-nulls _ (all_valid b i rs plain)))
