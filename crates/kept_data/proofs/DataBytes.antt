-- How many data bytes a node has by its kind. Assumes nothing.
use Prim.Native.Nat.{ℕ, ◌<◌, ◌≤◌}
use mathlib.Core.List.{List, map}
use mathlib.Core.Path.{◌≡◌, refl, sym, ◌∙◌}
use native.Mathlib.Omega.{arith}
use lib.ListN.{length}
use Rattle.format.specs.Bytes.{join}
use Rattle.format.specs.declared.Kind.{Kind}
use Rattle.format.specs.declared.Kind.TheVariants.{Bits, Native, Fixed, Bytes32, Bytes64, Views, Lists32, Lists64, Runs, Struct, Union, Dictionary, Nested32, Nested64, Unknown}
use Rattle.format.specs.Node.{node_count, kind, second_length}
use Rattle.format.specs.Kept.{cells, own_bytes}
use Rattle.format.specs.Write.{data_length}
use Rattle.format.specs.Accepted.{Sound, Offsets}

-- data bytes: texts of w bytes, or none
module _ (b : List ℕ) (i : ℕ) (rs : List ℕ) where
  data32 : kind b i ≡ Bytes32 → data_length (cells (kind b i) b i rs) ≡ length (join (map (own_bytes 4 b i) rs))
  unfolding cells data_length
  data32 e = rw e

  data64 : kind b i ≡ Bytes64 → data_length (cells (kind b i) b i rs) ≡ length (join (map (own_bytes 8 b i) rs))
  unfolding cells data_length
  data64 e = rw e

  no-data : (k : Kind) → (k ≡ Bytes32 → ⊥) → (k ≡ Bytes64 → ⊥) → data_length (cells k b i rs) ≡ 0
  unfolding cells data_length
  no-data Bits f g = refl
  no-data Native f g = refl
  no-data Fixed f g = refl
  no-data Bytes32 f g = absurd (f refl)
  no-data Bytes64 f g = absurd (g refl)
  no-data Views f g = refl
  no-data Lists32 f g = refl
  no-data Lists64 f g = refl
  no-data Runs f g = refl
  no-data Struct f g = refl
  no-data Union f g = refl
  no-data Dictionary f g = refl
  no-data Nested32 f g = refl
  no-data Nested64 f g = refl
  no-data Unknown f g = refl

-- by the node's kind
module _ {b : List ℕ} (sound : Sound b) {i : ℕ} (h : i < node_count b) where
  bytes-few : {w : ℕ} → Offsets w b i → (n : ℕ) → n ≤ second_length b i → n ≤ length b
  bytes-few o n l = omega (arith, o.data_lies, sound.shape.table)

  module _ (e : kind b i ≡ Bytes32) where
    pub texts32 : Offsets 4 b i
    texts32 = sound.offsets32 i h e

    pub length32 : (rs : List ℕ) (n : ℕ) → (n ≡ length (join (map (own_bytes 4 b i) rs))) × (n ≤ second_length b i) → (n ≡ data_length (cells (kind b i) b i rs)) × (n ≤ length b)
    length32 rs n f = (f.0 ∙ sym (data32 b i rs e), bytes-few texts32 n f.1)

  module _ (e : kind b i ≡ Bytes64) where
    pub texts64 : Offsets 8 b i
    texts64 = sound.offsets64 i h e

    pub length64 : (rs : List ℕ) (n : ℕ) → (n ≡ length (join (map (own_bytes 8 b i) rs))) × (n ≤ second_length b i) → (n ≡ data_length (cells (kind b i) b i rs)) × (n ≤ length b)
    length64 rs n f = (f.0 ∙ sym (data64 b i rs e), bytes-few texts64 n f.1)

pub length_none : (b : List ℕ) (i : ℕ) (rs : List ℕ) → (kind b i ≡ Bytes32 → ⊥) → (kind b i ≡ Bytes64 → ⊥) → (0 ≡ data_length (cells (kind b i) b i rs)) × (0 ≤ length b)
length_none b i rs f g = (sym (no-data b i rs (kind b i) f g), omega arith)
