-- Bytes, bits and little-endian numbers. A byte list is a List ℕ; reading past its end gives 0. Assumes nothing.
-- Lists are built by counting up: what stands at `suc n` is what stood at `n` with one item added at the end, as a loop adds it.
use Rattle.std.specs.Prelude.{ℕ, zero, suc, ◌+◌, ◌-◌, ◌*◌, ◌/◌, ◌%◌, ◌^◌, Bool, false, cond, ◌&&◌, ◌||◌, List, [], ◌∷◌, ◌++◌, length, take, drop, replicate, ◌==◌, nat_le, nat_lt, slice_index, slice_index_or}

module _ {A : Type 0} where
  -- f 0, f 1, .., f (n - 1)
  unfoldable pub table : (ℕ → A) → ℕ → List A
  table f zero = []
  table f (suc n) = table f n ++ (f n ∷ [])

  -- the lists of a list, one after the other
  unfoldable pub join : List (List A) → List A
  join [] = []
  join (x ∷ xs) = x ++ join xs

-- some number below n passes the test
unfoldable pub any_below : (ℕ → Bool) → ℕ → Bool
any_below p zero = false
any_below p (suc n) = any_below p n || p n

-- the numbers below n that pass the test, rising
unfoldable pub chosen : (ℕ → Bool) → ℕ → List ℕ
chosen p zero = []
chosen p (suc n) = chosen p n ++ cond (p n) (n ∷ []) []

-- 1 for true
abbrev pub one : Bool → ℕ
one b = cond b 1 0

-- how many of a list's numbers pass the test
unfoldable pub count_if : (ℕ → Bool) → List ℕ → ℕ
count_if p [] = 0
count_if p (r ∷ rs) = one (p r) + count_if p rs

-- k + r lies in [s, e)
unfoldable pub within : ℕ → ℕ → ℕ → ℕ → Bool
within k s e r = nat_le s (k + r) && nat_lt (k + r) e

-- f 0 + f 1 + .. + f (n - 1)
unfoldable pub sum_below : (ℕ → ℕ) → ℕ → ℕ
sum_below f zero = 0
sum_below f (suc n) = sum_below f n + f n

-- the little-endian number of w bytes at a place
unfoldable pub le : ℕ → List ℕ → ℕ → ℕ
le w b at = sum_below (λ j. slice_index b (at + j) * 256 ^ j) w

-- the w little-endian bytes of a number
unfoldable pub to_le : ℕ → ℕ → List ℕ
to_le w n = table (λ j. n / 256 ^ j % 256) w

-- a signed number of w bytes, read as unsigned, is negative if its top bit is set
unfoldable pub negative : ℕ → ℕ → Bool
negative w n = nat_le (2 ^ (8 * w - 1)) n

-- bit k of a byte list: bit 0 of a byte is first; and bit k counted from the byte at a place
unfoldable pub bit_in : List ℕ → ℕ → Bool
bit_in b k = slice_index b (k / 8) / 2 ^ (k % 8) % 2 == 1

unfoldable pub bit_at : List ℕ → ℕ → ℕ → Bool
bit_at b at k = bit_in b (8 * at + k)

-- how many bytes hold n bits
unfoldable pub bytes_for : ℕ → ℕ
bytes_for n = (n + 7) / 8

-- bits packed into bytes, bit 0 of a byte first, spare bits 0
unfoldable pub packed : List Bool → List ℕ
packed bs = table (λ j. sum_below (λ k. one (slice_index_or bs (8 * j + k) false) * 2 ^ k) 8) (bytes_for (length bs))

-- w bytes from a place on
unfoldable pub bytes_at : List ℕ → ℕ → ℕ → List ℕ
bytes_at b at w = take w (drop at b)

-- a place raised to a multiple of 8
unfoldable pub raised : ℕ → ℕ
raised n = (n + 7) / 8 * 8

-- bytes with zeros up to a multiple of 8
unfoldable pub padded : List ℕ → List ℕ
padded xs = xs ++ replicate (raised (length xs) - length xs) 0

-- a lent buffer after its front was written: the new items, then what stood behind them
unfoldable pub over : List ℕ → List ℕ → List ℕ
over new old = new ++ drop (length new) old

-- to unfold `opened` is to unfold all of this module
unfoldable pub opened : Unit {0}
unfolding table join any_below chosen count_if within sum_below le to_le negative bit_in bit_at bytes_for packed bytes_at raised padded over
opened = tt
