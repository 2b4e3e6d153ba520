-- The laws of `specs/Rows`: a word's rows one by one, and rows below a length. Assumes nothing.
use Rattle.std.proofs.Common.{◌≡◌, ℕ, zero, suc, ◌+◌, ◌-◌, ◌^◌, ◌<◌, ◌≤◌, Bool, true, false, List, [], ◌∷◌, ◌++◌, length, get_or, ap, arith}
use lib.Bits.{bit_and}
use lib.Count.{ones, count_trailing_zeros}
use Rattle.format.specs.Bytes.{chosen, bytes_at}
use Rattle.format.specs.Slots.{word_from, pick, picks_from, count_up}
use Rattle.format.specs.Words.{low_bits, gather}
use Rattle.format.specs.Rows.{set_rows, Below, none, more}
use Rattle.format.proofs.Numbers.{bytes-more}
use Rattle.format.proofs.SlotLaws.{length_up, get_or-up, chosen-picks}
use Rattle.format.proofs.WordLaws.{length-gather, gather_none, gather-all, gather-lowest, gather-from, trailing_lt}

-- ---- the n numbers from i on, one by one

pub up_none : (n i : ℕ) → n ≡ 0 → count_up n i ≡ []
unfolding count_up
up_none n i e = ap (λ (k : ℕ). count_up k i) e

pub up_more : (n m i j : ℕ) → n ≡ m + 1 → j ≡ i + 1 → count_up n i ≡ i ∷ count_up m j
unfolding count_up
up_more n m i j p q =
    let p' : n ≡ suc m = omega arith in
    let q' : j ≡ suc i = omega arith in
    rw (p', q')

-- ---- the rows of a word

pub set-none : (base x : ℕ) → x ≡ 0 → set_rows base x ≡ []
unfolding set_rows
set-none base x e = rw e (gather_none 64 (count_up 64 base))

-- the lowest set bit is the first row, and x AND (x less 1) has the others
pub set_more : (base x : ℕ) → 0 < x → x < 2 ^ 64 → set_rows base x ≡ (base + count_trailing_zeros 64 x) ∷ set_rows base (bit_and x (x - 1))
unfolding set_rows
set_more base x p h =
    let low : count_trailing_zeros 64 x < 64 = trailing_lt 64 64 x p h h in
    rw (← get_or-up 64 base (count_trailing_zeros 64 x) low) (gather-lowest 64 x (count_up 64 base) 0 p h (rw length_up low))

-- a word of ones is a run
pub set_all : (base x : ℕ) → x ≡ 0xFFFF_FFFF_FFFF_FFFF → set_rows base x ≡ count_up 64 base
unfolding set_rows
set_all base x e = gather-all 64 x (count_up 64 base) (omega arith) (length_up 64 base)

-- a word of tests has the slots that pass
pub set-from : (p : ℕ → Bool) (i : ℕ) → set_rows i (word_from p 64 i) ≡ picks_from p 64 i
unfolding set_rows
set-from p i = gather-from p 64 i

pub length-set-rows : (base x : ℕ) → x < 2 ^ 64 → length (set_rows base x) ≡ ones x
unfolding set_rows
length-set-rows base x h = length-gather 64 x (count_up 64 base) h (length_up 64 base)

-- ---- rows below a length

pub below-first : {len r : ℕ} {rs : List ℕ} → Below len (r ∷ rs) → r < len
below-first (more h g) = h

pub below-others : {len r : ℕ} {rs : List ℕ} → Below len (r ∷ rs) → Below len rs
below-others (more h g) = g

pub below_wider : {len m : ℕ} {rs : List ℕ} → len ≤ m → Below len rs → Below m rs
below_wider h none = none
below_wider h (more l g) = more (omega arith) (below_wider h g)

pub below_left : {len : ℕ} (xs ys : List ℕ) → Below len (xs ++ ys) → Below len xs
below_left [] ys h = none
below_left (x ∷ xs) ys (more h g) = more h (below_left xs ys g)

pub below_right : {len : ℕ} (xs ys : List ℕ) → Below len (xs ++ ys) → Below len ys
below_right [] ys h = h
below_right (x ∷ xs) ys (more h g) = below_right xs ys g

pub below_up : (len n i : ℕ) → i + n ≤ len → Below len (count_up n i)
unfolding count_up
below_up len zero i h = none
below_up len (suc n) i h =
    let l : i < len = omega arith in
    more l (below_up len n (suc i) (omega arith))

below-gather : {len : ℕ} (bs : List Bool) {xs : List ℕ} → Below len xs → Below len (gather bs xs)
unfolding gather
below-gather [] b = none
below-gather (t ∷ ts) none = none
below-gather (true ∷ ts) (more h g) = more h (below-gather ts g)
below-gather (false ∷ ts) (more h g) = below-gather ts g

-- the rows of a word are the 64 from its base on, at most
pub below-set : (len base x : ℕ) → base + 64 ≤ len → Below len (set_rows base x)
unfolding set_rows
below-set len base x h = below-gather (low_bits 64 x) (below_up len 64 base h)

pub below-picks : (p : ℕ → Bool) (len n i : ℕ) → i + n ≤ len → Below len (picks_from p n i)
unfolding picks_from
below-picks p len zero i h = none
below-picks p len (suc n) i h = go (p i) (below-picks p len n (suc i) (omega arith))
  where
    go : (t : Bool) → Below len (picks_from p n (suc i)) → Below len (pick t i (picks_from p n (suc i)))
    go true g = let l : i < len = omega arith in more l g
    go false g = g

pub below-chosen : (p : ℕ → Bool) (n : ℕ) → Below n (chosen p n)
below-chosen p n = rw chosen-picks (below-picks p n n 0 (omega arith))

-- ---- a part of a list of rows, one by one

pub list-more : (list : List ℕ) (j k m : ℕ) → k < j → j ≤ length list → m ≡ k + 1 → bytes_at list k (j - k) ≡ get_or list k 0 ∷ bytes_at list m (j - m)
list-more list j k m l h q = bytes-more _ _ _ _ _ (omega arith) q (omega arith)
