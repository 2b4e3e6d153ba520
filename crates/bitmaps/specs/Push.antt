-- A bitmap that is being written: full words stand in the output, and fewer than 64 bits wait ("spare bits 0"). Assumes nothing.
use Rattle.std.specs.Borrow.{Bor}
use Rattle.std.specs.Prelude.{ℕ, ◌+◌, ◌*◌, ◌/◌, ◌≡◌, ◌≤◌, Bool, true, false, List, ◌++◌, length, map, Option, MatchOption, None}
use Rattle.format.specs.Bytes.{bit_in}
use Rattle.format.specs.Write.{numbers}
use Rattle.format.specs.Words.{full_words, spare}
use Rattle.format.specs.Put.{Wrote}
use Rattle.format.specs.Mask.{by_route}
use Rattle.slots.specs.declared.Bits.{Bits}
use Rattle.slots.specs.declared.Source.{Source}
use Rattle.predicate.specs.declared.Selection.{Selection}
use Rattle.predicate.specs.declared.Selection.TheVariants.{Nothing, Everything, Words, Runs, Rows}
use Rattle.bitmaps.specs.declared.Bitmap.{Bitmap}
use Rattle.bitmaps.specs.declared.Column.{Column}

-- the output has room for the words that n bits more fill
abbrev pub Room : Bitmap → ℕ → Type 0
Room to n = to.here + 8 * ((length to.packer + n) / 64) ≤ length to.out.now

-- the bits ts are written from `at` on, but for those that wait
pub record Packs (ts : List Bool) (old : List ℕ) (at : ℕ) (to : Bitmap) : Type 0 where
  pub wrote : Wrote old at (numbers 8 (full_words ts)) to.out.now to.here
  pub waits : to.packer ≡ spare ts

-- the bits us are added behind all that was packed before; by how many words that moves the bitmap
pub record Adds (us : List Bool) (from to : Bitmap) : Type 0 where
  pub more : {ts : List Bool} {old : List ℕ} {at : ℕ} → Packs ts old at from → Packs (ts ++ us) old at to
  pub words : ℕ
  pub here : to.here ≡ from.here + 8 * words
  pub filled : length to.packer + 64 * words ≡ length from.packer + length us
  pub size : length to.out.now ≡ length from.out.now
  pub same_reference : to.out.ghost_name ≡ from.out.ghost_name

-- the bit of row r, where row 0 stands at a bit of the values
unfoldable pub bit_from : List ℕ → ℕ → ℕ → Bool
bit_from b from r = bit_in b (from + r)

-- the bits of rows of a column
abbrev pub bits_of : Column → List ℕ → List Bool
bits_of column rows = map (bit_from column.values.now column.from) rows

-- the source that a bitmap column is compressed by, or none where it goes by the selection's runs or rows (docs/FORMAT.md, 6)
abbrev pub Unless : Bool → Bor (List ℕ) → Bits → Option Source → Type 0
Unless goes s b r = MatchOption r (goes ≡ true) (λ source. (goes ≡ false) × (source.bytes ≡ s) × (source.bits ≡ b))

abbrev pub Compressed : Selection → ℕ → Option Source → Type 0
Compressed Nothing count r = r ≡ None
Compressed (Everything n) count r = r ≡ None
Compressed (Words source) count r = Unless (by_route source.bits.len count false) source.bytes source.bits r
Compressed (Runs stored) count r = Unless (by_route stored.bits.len count false) stored.bytes stored.bits r
Compressed (Rows stored) count r = Unless (by_route stored.bits.len count true) stored.bytes stored.bits r
