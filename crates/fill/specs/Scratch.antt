-- The bitmaps of kept rows in scratch: for the child of each runs node and list, which of its rows are kept. Assumes nothing.
use Rattle.std.specs.Prelude.{ℕ, suc, ◌+◌, ◌*◌, ◌^◌, ◌≤◌, ◌<◌, Bool, true, false, not, ◌&&◌, List, ◌≡◌, length, get_or, None}
use Rattle.format.specs.Bytes.{bit_in}
use Rattle.format.specs.Node.{node_count, rows}
use Rattle.format.specs.Answer.{takes_scratch, scratch_needed}
use Rattle.format.specs.Put.{Wrote}
use Rattle.slots.specs.declared.Bits.{Bits}
use Rattle.nesting.specs.Rows.{keeps, by_offsets}

-- the tests of n rows are the bits of s from byte `at` on, which lie before byte `end`
pub record Bitmap (t : ℕ → Bool) (n : ℕ) (s : List ℕ) (at end : ℕ) : Type 0 where
  pub inside : 8 * at + n ≤ 8 * end
  pub tells : (j : ℕ) → j < n → bit_in s (8 * at + j) ≡ t j

-- the bits of n rows from byte `at` on, with no validity bitmap
abbrev pub plain_bits : ℕ → ℕ → Bits
plain_bits at n = record { values_at = at; validity = None; skip = 0; len = n }

-- the child of runs node or list p has a bitmap in scratch, since it is not copied by the list's own offsets
unfoldable pub takes_bitmap : List ℕ → ℕ → Bool
takes_bitmap b p = takes_scratch b p && not (by_offsets b (suc p))

-- each such child below the first n nodes has its bitmap in s, whose bits a usize can number
pub record Earlier (b root : List ℕ) (n : ℕ) (s places : List ℕ) : Type 0 where
  pub few : length s < 2 ^ 60
  pub bitmaps : (p : ℕ) → p < n → takes_bitmap b p ≡ true → Bitmap (keeps b root (suc p)) (rows b (suc p)) s (get_or places (suc p) 0) (length s)

-- scratch went from `old` to `new`: no more than the scratch needed is written, the rest unchanged, and each such child has its bitmap there
pub record Filled (b root old new places : List ℕ) : Type 0 where
  pub bytes : List ℕ
  pub wrote : Wrote old 0 bytes new (length bytes)
  pub size : length bytes ≤ scratch_needed b
  pub fits : scratch_needed b ≤ length new
  pub bitmaps : (p : ℕ) → p < node_count b → takes_bitmap b p ≡ true → Bitmap (keeps b root (suc p)) (rows b (suc p)) new (get_or places (suc p) 0) (scratch_needed b)
