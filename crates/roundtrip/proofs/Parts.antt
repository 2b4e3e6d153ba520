-- Parts of a byte list that is put together from others, and the numbers and bits that are read there. Assumes nothing.
use Prim.Native.Nat.{ℕ, zero, suc, ◌+◌, ◌-◌, ◌*◌, ◌^◌, ◌/◌, ◌%◌, ◌≤◌, ◌<◌}
use mathlib.Core.Path.{◌≡◌, refl, sym, ap, ap₂, ◌∙◌}
use mathlib.Core.Bool.{Bool, false}
use mathlib.Core.List.{List, [], ◌∷◌, ◌++◌, map}
use native.Mathlib.Nat.{zero-add, add-zero, suc-add, add_assoc, mul-zero, mul-suc, pow-suc}
use native.Mathlib.Numerals.{add-one}
use native.Mathlib.Omega.{arith}
use lib.ListN.{length, get_or, take, drop, length-append, length-drop, length-map}
use lib.Seq.{take-append-le, drop-append-le, drop-append-add, take-append_seam, get_or-take, get_or-drop, get_or-append-add, ext_get_or}
use Rattle.format.specs.Bytes.{table, join, sum_below, le, to_le, bit_in, bit_at, bytes_for, packed, bytes_at}
use Rattle.format.specs.Write.{total, numbers}
use Rattle.format.proofs.Laws.{length-table, get_or-table}
use Rattle.format.proofs.Numbers.{sum-ext, sum-front, le-none, le-more, to_le-more}
use Rattle.format.proofs.Measure.{length-to_le}
use Rattle.format.proofs.PackedLaws.{bit-packed}

-- ---- items

module _ {A B : Type 0} where
  pub get_d_map : (f : A → B) (l : List A) (k : ℕ) (d : A) (e : B) → k < length l → get_or (map f l) k e ≡ f (get_or l k d)
  get_d_map f [] k d e h = absurd (omega arith)
  get_d_map f (x ∷ l) zero d e h = refl
  get_d_map f (x ∷ l) (suc k) d e h = get_d_map f l k d e (omega arith)

module _ {A : Type 0} where
  drop-take : (k m : ℕ) (l : List A) → drop k (take (k + m) l) ≡ take m (drop k l)
  drop-take zero m l = rw zero-add
  drop-take (suc k) m [] = rw suc-add (sym (lib.Seq.take-nil m))
  drop-take (suc k) m (x ∷ l) = rw suc-add (drop-take k m l)

  -- a list is made by asking for each of its items
  pub map_rows : (f : ℕ → A) (xs : List A) (d : A) (n : ℕ) → n ≡ length xs → ((r : ℕ) → r < n → f r ≡ get_or xs r d) → map f (table (λ k. k) n) ≡ xs
  map_rows f xs d n e h =
      let l : length (map f (table (λ k. k) n)) ≡ n = length-map (table (λ k. k) n) f ∙ length-table (λ k. k) n in
      ext_get_or d _ xs (l ∙ e)
      (λ r k. get_d_map f (table (λ k. k) n) r 0 d (rw (length-table {A = ℕ}) (omega arith))
      ∙ ap f (get_or-table (λ k. k) n r 0 (omega arith)) ∙ h r (omega arith))

-- ---- parts

module _ (xs ys : List ℕ) (at w : ℕ) where
  pub bytes_left : at + w ≤ length xs → bytes_at (xs ++ ys) at w ≡ bytes_at xs at w
  unfolding bytes_at
  bytes_left h =
      let room : w ≤ length (drop at xs) = rw length-drop (omega arith) in
      rw (drop-append-le at xs ys (omega arith)) (take-append-le w (drop at xs) ys room)

  pub bytes-right : bytes_at (xs ++ ys) (length xs + at) w ≡ bytes_at ys at w
  unfolding bytes_at
  bytes-right = rw drop-append-add

pub bytes-front : (xs ys : List ℕ) → bytes_at (xs ++ ys) 0 (length xs) ≡ xs
unfolding bytes_at
bytes-front xs ys = take-append_seam xs ys

-- a part of a part
pub bytes-within : (b : List ℕ) (at w k v : ℕ) → k + v ≤ w → bytes_at (bytes_at b at w) k v ≡ bytes_at b (at + k) v
unfolding bytes_at
bytes-within b at w k v h =
    let e : w ≡ k + (w - k) = omega arith in
    rw (e, drop-take k (w - k) (drop at b), lib.Seq.take-take v (w - k) (drop k (drop at b)) (omega arith), lib.Seq.drop-drop)

pub get_d_part : (b : List ℕ) (at w k : ℕ) → k < w → get_or (bytes_at b at w) k 0 ≡ get_or b (at + k) 0
unfolding bytes_at
get_d_part b at w k h = rw (get_or-take, get_or-drop)

-- a number of a part
pub le-part : (b : List ℕ) (at w k v : ℕ) → k + v ≤ w → le v (bytes_at b at w) k ≡ le v b (at + k)
unfolding le
le-part b at w k v h = sum-ext _ _ v (λ j l. ap (◌* 256 ^ j) (get_d_part b at w (k + j) (omega arith) ∙ ap (λ (n : ℕ). get_or b n 0) (sym (add_assoc at k j))))

-- ---- items one after the other

-- item k starts where those before it end
pub join-part : (ts : List (List ℕ)) (k : ℕ) → k < length ts → bytes_at (join ts) (total (map length ts) k) (length (get_or ts k [])) ≡ get_or ts k []
unfolding join total sum_below
join-part [] k h = absurd (omega arith)
join-part (t ∷ ts) zero h = bytes-front t (join ts)
join-part (t ∷ ts) (suc k) h = rw sum-front (bytes-right t (join ts) (total (map length ts) k) (length (get_or ts k [])) ∙ join-part ts k (omega arith))

-- the sizes sum up to the length of the whole
pub total-join : (ts : List (List ℕ)) → total (map length ts) (length ts) ≡ length (join ts)
unfolding join total sum_below
total-join [] = refl
total-join (t ∷ ts) = rw (sum-front, length-append) (ap (length t +◌) (total-join ts))

pub total-more : (sizes : List ℕ) (k : ℕ) → total sizes (suc k) ≡ total sizes k + get_or sizes k 0
unfolding total sum_below
total-more sizes k = refl

pub total-same : (w : ℕ) (sizes : List ℕ) (k : ℕ) → ((j : ℕ) → j < k → get_or sizes j 0 ≡ w) → total sizes k ≡ w * k
unfolding total sum_below
total-same w sizes zero h = sym (mul-zero w)
total-same w sizes (suc k) h = ap₂ ◌+◌ (total-same w sizes k (λ j l. h j (omega arith))) (h k (omega arith)) ∙ sym (mul-suc w k)

-- items of w bytes each
module _ (w : ℕ) (ts : List (List ℕ)) (wide : (j : ℕ) → j < length ts → length (get_or ts j []) ≡ w) where
  sizes-same : (j : ℕ) → j < length ts → get_or (map length ts) j 0 ≡ w
  sizes-same j h = get_d_map length ts j [] 0 h ∙ wide j h

  pub entry-part : (k : ℕ) → k < length ts → bytes_at (join ts) (w * k) w ≡ get_or ts k []
  entry-part k h =
      ap₂ (bytes_at (join ts)) (sym (total-same w (map length ts) k (λ j l. sizes-same j (omega arith)))) (sym (wide k h)) ∙ join-part ts k h

  pub length-entries : length (join ts) ≡ w * length ts
  length-entries = sym (total-join ts) ∙ total-same w (map length ts) (length ts) (λ j l. sizes-same j l)

-- ---- numbers

pub le_right : (w : ℕ) (xs ys : List ℕ) (at : ℕ) → le w (xs ++ ys) (length xs + at) ≡ le w ys at
unfolding le
le_right w xs ys at = sum-ext _ _ w (λ j l. ap (◌* 256 ^ j) (ap (λ (n : ℕ). get_or (xs ++ ys) n 0) (add_assoc (length xs) at j) ∙ get_or-append-add xs ys (at + j) 0))

-- a number that fits is read back
pub le-to_le : (w n : ℕ) → n < 256 ^ w → le w (to_le w n) 0 ≡ n
le-to_le zero n h = le-none 0 (to_le 0 n) 0 refl ∙ omega arith
le-to_le (suc w) n h =
    let s : n < 256 ^ w * 256 = rw pow-suc at h in
    let ih : le w (to_le w (n / 256)) 0 ≡ n / 256 = le-to_le w (n / 256) (omega arith) in
    rw (to_le-more (suc w) w n (sym (add-one w)), le-more (suc w) w (n % 256 ∷ to_le w (n / 256)) 0 1 (sym (add-one w)) refl, le_right w (n % 256 ∷ []) (to_le w (n / 256)) 0)
    (omega arith)

pub numbers-part : (w : ℕ) (ns : List ℕ) (k : ℕ) → k < length ns → bytes_at (numbers w ns) (w * k) w ≡ to_le w (get_or ns k 0)
unfolding numbers
numbers-part w ns k h =
    entry-part w (map (to_le w) ns) (λ j l. ap length (get_d_map (to_le w) ns j 0 [] (rw (length-map ns (to_le w)) at l)) ∙ length-to_le w (get_or ns j 0)) k
    (rw (length-map ns (to_le w)) h)
    ∙ get_d_map (to_le w) ns k 0 [] h

pub number_at : (w : ℕ) (ns : List ℕ) (k : ℕ) → k < length ns → get_or ns k 0 < 256 ^ w → le w (numbers w ns) (w * k) ≡ get_or ns k 0
number_at w ns k h s =
    ap (le w (numbers w ns)) (sym (add-zero (w * k)))
    ∙ sym (le-part (numbers w ns) (w * k) w 0 w (omega arith))
    ∙ ap (λ (l : List ℕ). le w l 0) (numbers-part w ns k h) ∙ le-to_le w (get_or ns k 0) s

-- ---- bits

pub bit-part : (b : List ℕ) (at : ℕ) (bs : List Bool) (k : ℕ) → bytes_at b at (bytes_for (length bs)) ≡ packed bs → k < length bs → bit_at b at k ≡ get_or bs k false
unfolding bit_at bit_in bytes_for
bit-part b at bs k e h =
    let byte : (8 * at + k) / 8 ≡ at + k / 8 = omega arith in
    let bit : (8 * at + k) % 8 ≡ k % 8 = omega arith in
    let m : k / 8 < (length bs + 7) / 8 = omega arith in
    rw (byte, bit, ← get_d_part b at ((length bs + 7) / 8) (k / 8) m, e) (bit-packed bs k)
