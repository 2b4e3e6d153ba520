-- Numbers of w bytes each, from a place on, and when they are no offsets, list views, run ends or keys. Assumes nothing.
use Rattle.std.specs.Prelude.{ℕ, zero, suc, ◌+◌, ◌*◌, ◌^◌, ◌<◌, ◌≤◌, Bool, cond, not, ◌&&◌, ◌||◌, List, length, ◌==◌, nat_le, nat_lt, slice_index}
use Rattle.format.specs.Bytes.{le, negative, any_below, bit_at}

-- number r
unfoldable pub number : ℕ → List ℕ → ℕ → ℕ → ℕ
number w b at r = le w b (at + w * r)

-- number r + 1 is negative or below number r
unfoldable pub falls : ℕ → List ℕ → ℕ → ℕ → Bool
falls w b at r = negative w (number w b at (suc r)) || nat_lt (number w b at (suc r)) (number w b at r)

-- n + 1 offsets do not start at 0 or more, or fall, or end past the limit
unfoldable pub bad_offsets_at : ℕ → List ℕ → ℕ → ℕ → ℕ → Bool
bad_offsets_at w b at n limit = negative w (number w b at 0) || any_below (falls w b at) n || nat_lt limit (number w b at n)

-- list view r, its offset from one place on and its size from another, ends past the limit
unfoldable pub bad_range_at : ℕ → List ℕ → ℕ → ℕ → ℕ → ℕ → Bool
bad_range_at w b at sizes limit r =
    negative w (number w b at r) || negative w (number w b sizes r) || nat_lt limit (number w b at r + number w b sizes r)

-- key r is not below the limit; the same of a row that is valid, by bit k + r of a bitmap
unfoldable pub bad_key : ℕ → List ℕ → ℕ → ℕ → ℕ → Bool
bad_key w b at limit r = nat_le limit (number w b at r)

unfoldable pub bad_valid_key : ℕ → List ℕ → ℕ → ℕ → ℕ → ℕ → ℕ → Bool
bad_valid_key w b at limit bits k r = bit_at b bits (k + r) && bad_key w b at limit r

-- where run j starts: at the end before it, 0 for the first
unfoldable pub start_at : ℕ → List ℕ → ℕ → ℕ → ℕ
start_at w b at zero = 0
start_at w b at (suc j) = number w b at j

-- n run ends are not positive, or do not rise, or the last is below `places`
unfoldable pub bad_runs_at : ℕ → List ℕ → ℕ → ℕ → ℕ → Bool
bad_runs_at w b at n places =
    any_below (λ j. negative w (number w b at j) || nat_le (number w b at j) (start_at w b at j)) n || nat_lt (start_at w b at n) places

-- field k of the view at a place, 4 bytes each: length, prefix, buffer number, offset
unfoldable pub view_at : ℕ → List ℕ → ℕ → ℕ
view_at k b here = le 4 b (here + 4 * k)

-- of the 12 bytes behind a view's length, one past `len` of them is not zero
unfoldable pub unused_at : List ℕ → ℕ → ℕ → Bool
unused_at b here len = any_below (λ k. nat_le len k && not (slice_index b (here + 4 + k) == 0)) 12

-- the range of a long view leaves the data buffer that it names, of `kids` buffers, or its prefix is not the first four data bytes. Rows, skip and first at
-- of data buffer k stand in the node table, 40 bytes after those of the one before; `buffers` is where the rows of the first do
unfoldable pub bad_long_at : List ℕ → ℕ → ℕ → ℕ → Bool
bad_long_at b kids buffers here =
    let node = buffers + 40 * view_at 2 b here in
    nat_le kids (view_at 2 b here)
    || nat_lt (le 4 b node) (view_at 3 b here + view_at 0 b here)
    || not (view_at 1 b here == le 4 b (le 4 b (node + 16) + le 4 b (node + 4) + view_at 3 b here))

-- the view at a place: its length is negative, or it is wrong as a long one, above 12, or as a short one
unfoldable pub bad_view_at : List ℕ → ℕ → ℕ → ℕ → Bool
bad_view_at b kids buffers here =
    negative 4 (view_at 0 b here) || cond (nat_lt 12 (view_at 0 b here)) (bad_long_at b kids buffers here) (unused_at b here (view_at 0 b here))

-- `kids` data buffers: their nodes can be read, their rows are fewer than a length that is not negative may say, and these rows can be read too
pub record DataBuffers (b : List ℕ) (kids buffers : ℕ) : Type 0 where
  pub nodes : (k : ℕ) → k < kids → buffers + 40 * k + 20 ≤ length b
  pub few : (k : ℕ) → k < kids → le 4 b (buffers + 40 * k) < 2 ^ 31
  pub bytes : (k : ℕ) → k < kids → le 4 b (buffers + 40 * k + 16) + le 4 b (buffers + 40 * k + 4) + le 4 b (buffers + 40 * k) ≤ length b
