-- A bit source: packed bits with an optional validity bitmap in a slice of bytes, and what its readers give. Assumes nothing.
use Rattle.std.specs.Prelude.{ℕ, ◌+◌, ◌*◌, ◌^◌, ◌%◌, ◌≤◌, ◌<◌, Bool, true, ◌&&◌, List, ◌≡◌, length}
use Rattle.std.specs.Option.{option_map_or, ForSome}
use Rattle.format.specs.Bytes.{bit_at}
use Rattle.format.specs.Slots.{up_to, word_from}
use Rattle.slots.specs.declared.Bits.{Bits}

-- the value bit of slot i is set, and its validity bit where there is a bitmap: whatever bits stand there
unfoldable pub both_set : List ℕ → Bits → ℕ → Bool
both_set s b i = bit_at s b.values_at (b.skip + i) && option_map_or (λ at. bit_at s at (b.skip + i)) b.validity true

-- slot i is picked: true and not null. There is none past the last
unfoldable pub slot_of : List ℕ → Bits → ℕ → Bool
slot_of s b = up_to (both_set s b) b.len

-- slots 64 w to 64 w + 63, low bit first, zero-filled past the last (bit_chunks)
abbrev pub word_at : List ℕ → Bits → ℕ → ℕ
word_at s b w = word_from (slot_of s b) 64 (64 * w)

-- the bits of all slots lie in the slice, whose bits a usize can number
pub record Lies (s : List ℕ) (b : Bits) : Type 0 where
  pub small : length s < 2 ^ 60
  pub values : 8 * b.values_at + (b.skip + b.len) ≤ 8 * length s
  pub validity : ForSome b.validity (λ at. 8 * at + (b.skip + b.len) ≤ 8 * length s)

-- the first n words of slots are whole, and stand in eight bytes each
pub record ByteWords (b : Bits) (n : ℕ) : Type 0 where
  pub whole : 64 * n ≤ b.len
  pub even : 0 < n → b.skip % 8 ≡ 0
