-- Which kinds copy entries, have offsets and data, or sizes. Assumes nothing.
use Rattle.std.specs.Prelude.{ℕ}
use Rattle.format.specs.declared.Kind.{Kind}
use Rattle.format.specs.declared.Kind.TheVariants.{Native, Fixed, Bytes32, Bytes64, Views, Lists32, Lists64, Union, Dictionary}

-- the kinds whose first buffer has entries, copied as they are: kind, param, and bytes to an entry
pub data Copies : Kind → ℕ → ℕ → Type 0 where
  of_native : {p : ℕ} → Copies Native p p
  of_fixed : {p : ℕ} → Copies Fixed p p
  of_views : {p : ℕ} → Copies Views p 16
  of_lists32 : {p : ℕ} → Copies Lists32 p 4
  of_lists64 : {p : ℕ} → Copies Lists64 p 8
  of_union : {p : ℕ} → Copies Union p 1
  of_dictionary : {p : ℕ} → Copies Dictionary p p

-- the kinds of byte columns: kind, and bytes to an offset
pub data ByteColumn : Kind → ℕ → Type 0 where
  bytes32 : ByteColumn Bytes32 4
  bytes64 : ByteColumn Bytes64 8

-- the kinds that are nothing but entries of param bytes: no second buffer, no child
pub data Flat : Kind → Type 0 where
  flat_native : Flat Native
  flat_fixed : Flat Fixed

-- the kinds whose second buffer has sizes, copied as they are: kind, and bytes to a size
pub data Sizes : Kind → ℕ → Type 0 where
  sizes32 : Sizes Lists32 4
  sizes64 : Sizes Lists64 8
