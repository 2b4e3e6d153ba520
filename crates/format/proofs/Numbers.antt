-- The laws of little-endian numbers, of their bytes and of parts of a byte list, over every width: the first byte off, two parts joined,
-- and a number read from bytes has those bytes. Assumes nothing.
use Rattle.std.proofs.Common.{◌≡◌, ℕ, zero, suc, ◌+◌, ◌-◌, ◌*◌, ◌/◌, ◌%◌, ◌^◌, ◌<◌, ◌≤◌, ◌⊎◌, List, [], ◌∷◌, ◌++◌, length, get_or, take, drop, sym, refl, ap, ◌∙◌, ap₂, inl, inr, append_assoc, add-zero, add_assoc, add-suc, mod-eq_of_lt, mul_assoc, mul_comm, add-mul, add_comm, suc-add, eq-or-lt_of_le, pow-suc, zero-add, zero-mul, div-one, arith, lit<, length-drop, length-take, get_or-drop, drop-cons, take-suc, drop-drop, take-add, pow-add}
use native.Mathlib.Nat.{pow-succ', one-le-pow, div-eq_of_lt, div-div-eq-div-mul, add-mul-div_right, add-mul-mod_self_right}
use lib.Arith.{digits_lt, mod-mul}
use lib.Seq.{take-length}
use Rattle.format.specs.Bytes.{table, join, sum_below, le, to_le, bytes_at}
use Rattle.format.specs.Write.{numbers}

-- ---- tables and sums from the front

module _ {A : Type 0} where
  pub table-ext : (f g : ℕ → A) (n : ℕ) → ((j : ℕ) → j < n → f j ≡ g j) → table f n ≡ table g n
  unfolding table
  table-ext f g zero h = refl
  table-ext f g (suc n) h = rw (table-ext f g n (λ j l. h j (omega arith)), h n (omega arith))

  pub table-front : (f : ℕ → A) (n : ℕ) → table f (suc n) ≡ f 0 ∷ table (λ j. f (suc j)) n
  unfolding table
  table-front f zero = refl
  table-front f (suc n) = ap (λ (l : List A). l ++ (f (suc n) ∷ [])) (table-front f n)

pub sum-ext : (f g : ℕ → ℕ) (n : ℕ) → ((j : ℕ) → j < n → f j ≡ g j) → sum_below f n ≡ sum_below g n
unfolding sum_below
sum-ext f g zero h = refl
sum-ext f g (suc n) h = rw (sum-ext f g n (λ j l. h j (omega arith)), h n (omega arith))

pub sum-front : (f : ℕ → ℕ) (n : ℕ) → sum_below f (suc n) ≡ f 0 + sum_below (λ j. f (suc j)) n
unfolding sum_below
sum-front f zero = add_comm 0 (f 0)
sum-front f (suc n) = rw (sum-front f n) (add_assoc (f 0) (sum_below (λ j. f (suc j)) n) (f (suc n)))

pub sum-times : (f : ℕ → ℕ) (c n : ℕ) → sum_below (λ j. f j * c) n ≡ sum_below f n * c
unfolding sum_below
sum-times f c zero = sym (zero-mul c)
sum-times f c (suc n) = rw (sum-times f c n) (sym (add-mul (sum_below f n) (f n) c))

-- ---- the bytes of a number

pub to_le-none : (w n : ℕ) → w ≡ 0 → to_le w n ≡ []
unfolding to_le table
to_le-none w n e = ap (λ (k : ℕ). to_le k n) e

pub to_le-more : (w v n : ℕ) → w ≡ v + 1 → to_le w n ≡ n % 256 ∷ to_le v (n / 256)
unfolding to_le
to_le-more w v n e =
    let e' : w ≡ suc v = omega arith in
    rw e'
    (table-front (λ j. n / 256 ^ j % 256) v
    ∙ ap₂ ◌∷◌ (ap (λ (k : ℕ). k % 256) (div-one n))
    (table-ext _ _ v (λ j l. ap (λ (k : ℕ). k % 256) (rw pow-succ' (sym (div-div-eq-div-mul n 256 (256 ^ j)))))))

-- only its w low bytes count
pub to_le-mod : (w n : ℕ) → to_le w (n % 256 ^ w) ≡ to_le w n
to_le-mod zero n = to_le-none 0 _ refl ∙ sym (to_le-none 0 n refl)
to_le-mod (suc w) n =
    let parts : n % 256 ^ suc w ≡ n / 256 % 256 ^ w * 256 + n % 256 = rw pow-suc (mod-mul n (one-le-pow w 256 (lit< tt)) (lit< tt)) in
    let high : (n / 256 % 256 ^ w * 256 + n % 256) / 256 ≡ n / 256 % 256 ^ w = omega arith in
    let low : (n / 256 % 256 ^ w * 256 + n % 256) % 256 ≡ n % 256 = omega arith in
    rw (parts, to_le-more (suc w) w _ (omega arith), to_le-more (suc w) w n (omega arith), high, low) (ap (λ (l : List ℕ). n % 256 ∷ l) (to_le-mod w (n / 256)))

-- ---- the number of bytes: the first byte off, and how much it can be

pub le-none : (w : ℕ) (b : List ℕ) (at : ℕ) → w ≡ 0 → le w b at ≡ 0
unfolding le sum_below
le-none w b at e = ap (λ (k : ℕ). le k b at) e

pub le-more : (w v : ℕ) (b : List ℕ) (at next : ℕ) → w ≡ v + 1 → next ≡ at + 1 → le w b at ≡ get_or b at 0 + 256 * le v b next
unfolding le
le-more w v b at next e n =
    let e' : w ≡ suc v = omega arith in
    let n' : next ≡ suc at = omega arith in
    rw (e', n', sum-front) (ap₂ ◌+◌ first (sum-ext _ _ v later ∙ sum-times _ 256 v ∙ mul_comm _ 256))
  where
    first : get_or b (at + 0) 0 * 1 ≡ get_or b at 0
    first = rw add-zero (omega arith)

    later : (j : ℕ) → j < v → get_or b (at + suc j) 0 * 256 ^ suc j ≡ get_or b (suc at + j) 0 * 256 ^ j * 256
    later j l = rw (add-suc, suc-add, pow-suc, ← mul_assoc)

-- one byte more at the top
pub le-last : (w v : ℕ) (b : List ℕ) (at : ℕ) → w ≡ v + 1 → le w b at ≡ le v b at + get_or b (at + v) 0 * 256 ^ v
unfolding le sum_below
le-last w v b at e =
    let e' : w ≡ suc v = omega arith in
    rw e'

-- the number whose digits are d, base 256
module _ (d : ℕ → ℕ) (small : (j : ℕ) → d j < 256) where
  number_lt : (w : ℕ) → sum_below (λ j. d j * 256 ^ j) w < 256 ^ w
  unfolding sum_below
  number_lt zero = lit< tt
  number_lt (suc w) = rw (pow-succ', add_comm) (digits_lt (small w) (number_lt w))

  digit_at : (w j : ℕ) → j < w → sum_below (λ j. d j * 256 ^ j) w / 256 ^ j % 256 ≡ d j
  unfolding sum_below
  digit_at zero j h = absurd (omega arith)
  digit_at (suc w) j h = go (digit_at w j) (eq-or-lt_of_le h)
    where
      s : ℕ
      s = sum_below (λ j. d j * 256 ^ j) w

      go : (j < w → s / 256 ^ j % 256 ≡ d j) → (suc j ≡ suc w) ⊎ (suc j < suc w) → (s + d w * 256 ^ w) / 256 ^ j % 256 ≡ d j
      go ih (inl e) =
          let same : j ≡ w = omega arith in
          rw (same, add-mul-div_right s (d w) (one-le-pow w 256 (lit< tt)), div-eq_of_lt (number_lt w), zero-add) (mod-eq_of_lt (small w))
      go ih (inr l) = above (w - suc j) (omega arith) (ih (omega arith))
        where
          above : (k : ℕ) → w ≡ suc k + j → s / 256 ^ j % 256 ≡ d j → (s + d w * 256 ^ w) / 256 ^ j % 256 ≡ d j
          above k e low =
              let top : d w * 256 ^ w ≡ d w * 256 ^ k * 256 * 256 ^ j =
              ap (λ (n : ℕ). d w * 256 ^ n) e ∙ rw (pow-add, pow-suc, ← mul_assoc, ← mul_assoc) in
              rw (top, add-mul-div_right s (d w * 256 ^ k * 256) (one-le-pow j 256 (lit< tt)), add-mul-mod_self_right) low

pub le-lt : (w : ℕ) (b : List ℕ) (at : ℕ) → ((i : ℕ) → get_or b i 0 < 256) → le w b at < 256 ^ w
unfolding le
le-lt w b at small = number_lt (λ j. get_or b (at + j) 0) (λ j. small (at + j)) w

-- ---- a part of a byte list

pub bytes-none : (b : List ℕ) (at w : ℕ) → w ≡ 0 → bytes_at b at w ≡ []
unfolding bytes_at
bytes-none b at w e = ap (λ (k : ℕ). take k (drop at b)) e

pub bytes-all : (b : List ℕ) (w : ℕ) → w ≡ length b → bytes_at b 0 w ≡ b
unfolding bytes_at
bytes-all b w e = rw e (take-length b)

module _ (b : List ℕ) (at next w v : ℕ) where
  pub bytes_same : at ≡ next → w ≡ v → bytes_at b at w ≡ bytes_at b next v
  bytes_same p q = ap₂ (bytes_at b) p q

  pub bytes-more : at < length b → next ≡ at + 1 → w ≡ v + 1 → bytes_at b at w ≡ get_or b at 0 ∷ bytes_at b next v
  unfolding bytes_at
  bytes-more h p q =
      let p' : next ≡ suc at = omega arith in
      let q' : w ≡ suc v = omega arith in
      rw (p', q', drop-cons b at 0)

-- two parts that meet are one
pub bytes-join : (b : List ℕ) (at n m : ℕ) → bytes_at b at (n + m) ≡ bytes_at b at n ++ bytes_at b (at + n) m
unfolding bytes_at
bytes-join b at n m = rw (take-add, drop-drop)

pub length-bytes : (b : List ℕ) (at w : ℕ) → at + w ≤ length b → length (bytes_at b at w) ≡ w
unfolding bytes_at
length-bytes b at w h = simp (length-take, length-drop) (omega arith)

bytes-table : (b : List ℕ) (at w : ℕ) → at + w ≤ length b → bytes_at b at w ≡ table (λ j. get_or b (at + j) 0) w
unfolding table bytes_at
bytes-table b at zero h = refl
bytes-table b at (suc w) h =
    let inside : w < length (drop at b) = rw length-drop (omega arith) in
    rw (take-suc (drop at b) w 0 inside, get_or-drop) (ap (λ (l : List ℕ). l ++ (get_or b (at + w) 0 ∷ [])) (bytes-table b at w (omega arith)))

-- the bytes of a number that was read are the bytes that stand there
pub bytes-of-le : (w : ℕ) (b : List ℕ) (at : ℕ) → at + w ≤ length b → ((i : ℕ) → get_or b i 0 < 256) → to_le w (le w b at) ≡ bytes_at b at w
unfolding le to_le
bytes-of-le w b at fit small =
    table-ext _ _ w (λ j l. digit_at (λ j. get_or b (at + j) 0) (λ j. small (at + j)) w j l) ∙ sym (bytes-table b at w fit)

-- what a reader of w bytes ensures, from its first half
pub read : (w n : ℕ) (b : List ℕ) (at : ℕ) → at + w ≤ length b → ((i : ℕ) → get_or b i 0 < 256) → n ≡ le w b at → (n ≡ le w b at) × (to_le w n ≡ bytes_at b at w)
read w n b at fit small e = (e, rw e (bytes-of-le w b at fit small))

-- ---- lists of numbers

pub numbers-none : (w : ℕ) → numbers w [] ≡ []
unfolding numbers join
numbers-none w = refl

pub numbers-cons : (w n : ℕ) (ns : List ℕ) → numbers w (n ∷ ns) ≡ to_le w n ++ numbers w ns
unfolding numbers join
numbers-cons w n ns = refl

pub numbers-append : (w : ℕ) (ms ns : List ℕ) → numbers w (ms ++ ns) ≡ numbers w ms ++ numbers w ns
unfolding numbers join
numbers-append w [] ns = refl
numbers-append w (m ∷ ms) ns = rw (numbers-append w ms ns) (sym (append_assoc (to_le w m) (numbers w ms) (numbers w ns)))
