-- A number's bytes as the library has them are those of the format's definitions, at 2, 4 and 8 bytes. Assumes nothing.
use Rattle.std.proofs.Common.{◌≡◌, ℕ, ◌+◌, ◌<◌, List, get_or, drop, get_or-take, get_or-drop, arith, ◌∙◌, div-one}
use Rattle.std.specs.Int.{to_le_bytes, from_le_bytes, w16, w32, w64}
use Rattle.format.specs.Bytes.{le, to_le, bytes_at, table, sum_below}

-- byte j of w bytes from a place on
byte : (w : ℕ) (b : List ℕ) (at j : ℕ) → j < w → get_or (bytes_at b at w) j 0 ≡ get_or b (at + j) 0
unfolding bytes_at
byte w b at j l = get_or-take w (drop at b) j 0 l ∙ get_or-drop at b j 0

pub from_2 : (b : List ℕ) (at : ℕ) → from_le_bytes w16 (bytes_at b at 2) ≡ le 2 b at
unfolding le sum_below
from_2 b at = rw (byte 2 b at 0 (omega arith), byte 2 b at 1 (omega arith)) (omega arith)

pub from_4 : (b : List ℕ) (at : ℕ) → from_le_bytes w32 (bytes_at b at 4) ≡ le 4 b at
unfolding le sum_below
from_4 b at = rw (byte 4 b at 0 (omega arith), byte 4 b at 1 (omega arith), byte 4 b at 2 (omega arith), byte 4 b at 3 (omega arith)) (omega arith)

pub to_2 : (n : ℕ) → to_le_bytes w16 n ≡ to_le 2 n
unfolding to_le table
to_2 n = simp div-one

pub to_4 : (n : ℕ) → to_le_bytes w32 n ≡ to_le 4 n
unfolding to_le table
to_4 n = simp div-one

pub to_8 : (n : ℕ) → to_le_bytes w64 n ≡ to_le 8 n
unfolding to_le table
to_8 n = simp div-one

pub from_8 : (b : List ℕ) (at : ℕ) → from_le_bytes w64 (bytes_at b at 8) ≡ le 8 b at
unfolding le sum_below
from_8 b at = rw (byte 8 b at 0 (omega arith), byte 8 b at 1 (omega arith), byte 8 b at 2 (omega arith), byte 8 b at 3 (omega arith), byte 8 b at 4 (omega arith), byte 8 b at 5 (omega arith), byte 8 b at 6 (omega arith), byte 8 b at 7 (omega arith)) (omega arith)
