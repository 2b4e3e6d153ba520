-- Null counts: of a node without a bitmap, of one with; and by the mark. Assumes nothing.
use Prim.Native.Nat.{ℕ, ◌+◌, ◌-◌, ◌*◌, ◌^◌, ◌≤◌, ◌<◌}
use mathlib.Core.Bool.{not}
use mathlib.Core.List.{List}
use mathlib.Core.Path.{◌≡◌, refl, sym}
use native.Mathlib.Omega.{arith}
use borrow.Author.Tests.{eq-eqb}
use lib.ListN.{length, get_or}
use Rattle.format.specs.Bytes.{chosen, bit_at}
use Rattle.format.specs.Node.{table_start, node_count, no_bitmap, kind_of, rows, validity_at, has_no_bitmap, valid, null_count, child}
use Rattle.format.proofs.NullLaws.{none-chosen}
use Rattle.format.proofs.Numbers.{le-lt}
use Rattle.pack.specs.declared.Node.{Node}
use Rattle.pack.specs.Read.{node_of}
use Rattle.checker.specs.Laid.{Laid}
use Rattle.checker.proofs.Inside.{Looked, bits_in, has-bitmap}

module _ (b : List ℕ) (i : ℕ) {n : Node} (laid : Laid b) (inside : i < node_count b) (read : n ≡ node_of b i) where
  looked : Looked b i n (kind_of n.kind) (rows b (child i))
  looked = record { laid = laid; inside = inside; read = read; known = refl; under = refl }

  pub no-bitmap : n.validity_at ≡ no_bitmap → 0 ≡ null_count b i
  unfolding null_count valid has_no_bitmap
  no-bitmap h =
      let e : validity_at b i ≡ no_bitmap = rw read at h in
      sym (none-chosen _ (rows b i) (λ r. rw (eq-eqb (validity_at b i) no_bitmap e)))

  module _ (h : n.validity_at ≡ no_bitmap → ⊥) where
    pub marks-lie : ((k : ℕ) → get_or b k 0 < 256) → (length b < 2 ^ 60) × (8 * n.validity_at + (n.skip + n.rows) ≤ 8 * length b)
    unfolding table_start
    marks-lie small = (omega (arith, laid.few, laid.whole, le-lt 4 b (length b - 16) small), omega (arith, (bits_in looked h).0))

    pub by-bitmap : length (chosen (λ k. not (bit_at b n.validity_at (n.skip + k))) n.rows) ≡ null_count b i
    unfolding null_count valid
    by-bitmap = rw (has-bitmap looked h, read)
