-- Views: the bytes past a short view's length by shifts, a long view's range and prefix, and both together. Assumes nothing.
use Rattle.std.proofs.Common.{◌≡◌, ℕ, zero, suc, ◌+◌, ◌-◌, ◌*◌, ◌/◌, ◌^◌, ◌<◌, ◌≤◌, min, Bool, true, not, ◌&&◌, ◌||◌, eqb, leb, List, length, get_or, sym, refl, ap, ◌∙◌, ap₂, add-zero, add-suc, div-one, arith, pow-add, le-ltb, lt-ltb, eq-eqb, ne_eqb, le-leb}
use mathlib.Core.Bool.{or_assoc, or-false, or-true}
use mathlib.Core.Logic.{dite}
use native.Mathlib.Decide.{dec_le, ℕ_discrete}
use native.Mathlib.Nat.{zero-div, div-div-eq-div-mul, pow-succ'}
use borrow.Author.Tests.{lt-leb}
use lib.Bits.{bit_or, and_le_l, and_le_r, or_add_and}
use Rattle.format.specs.Bytes.{le, any_below, negative}
use Rattle.format.proofs.Numbers.{le-none, le-more}
use Rattle.format.proofs.WordLaws.{bytes_bits}
use Rattle.content.specs.Numbers.{view_at, unused_at, bad_long_at, bad_view_at, DataBuffers}
use Rattle.content.proofs.Fold.{any-start, any-front, any-ext}

-- ---- a short view: the bytes past its length

-- a number that is not zero
abbrev some : ℕ → Bool
some x = not (eqb x 0)

-- it is zero just where two others are
some-both : (x y z : ℕ) → (z ≡ 0 → (x ≡ 0) × (y ≡ 0)) → (x ≡ 0 → y ≡ 0 → z ≡ 0) → (some x || some y) ≡ some z
some-both x y z parts whole =
    dite (ℕ_discrete z 0)
    (λ e. let (f, g) = parts e in rw (eq-eqb z 0 e, eq-eqb x 0 f, eq-eqb y 0 g))
    (λ e.
    dite (ℕ_discrete x 0)
    (λ f. rw (ne_eqb z 0 e, eq-eqb x 0 f, ne_eqb y 0 (λ g. e (whole f g))))
    (λ f. rw (ne_eqb z 0 e, ne_eqb x 0 f)))

some_or : (x y : ℕ) → (some x || some y) ≡ some (bit_or x y)
some_or x y =
    some-both x y (bit_or x y)
    (λ e. (omega (arith, or_add_and x y, and_le_r x y), omega (arith, or_add_and x y, and_le_l x y)))
    (λ e f. omega (arith, or_add_and x y))

leb-same : (a b c d : ℕ) → (a ≤ b → c ≤ d) → (c ≤ d → a ≤ b) → leb a b ≡ leb c d
leb-same a b c d to back =
    dite (dec_le a b)
    (λ h. rw (le-leb a b h, le-leb c d (to h)))
    (λ h. dite (dec_le c d) (λ g. absurd (h (back g))) (λ g. rw (lt-leb a b (omega arith), lt-leb c d (omega arith))))

any-cat : (p : ℕ → Bool) (n m : ℕ) → any_below p (n + m) ≡ (any_below p n || any_below (λ k. p (n + k)) m)
unfolding any_below
any-cat p n zero = rw add-zero (sym (or-false (any_below p n)))
any-cat p n (suc m) = rw (add-suc, any-cat p n m) (or_assoc (any_below p n) _ _)

-- a number without its first byte
shifted : (x y d m : ℕ) → x < 256 → d ≡ suc m → (x + 256 * y) / 256 ^ d ≡ y / 256 ^ m
shifted x y d m l e =
    let q : (x + 256 * y) / 256 ≡ y = omega arith in
    rw (e, pow-succ') (sym (div-div-eq-div-mul (x + 256 * y) 256 (256 ^ m)) ∙ ap (λ (z : ℕ). z / 256 ^ m) q)

module _ (b : List ℕ) (small : (k : ℕ) → get_or b k 0 < 256) where
  -- of n bytes one past the first l is not zero
  abbrev spare : ℕ → ℕ → ℕ → Bool
  spare n l p = any_below (λ k. leb l k && some (get_or b (p + k) 0)) n

  -- the same without the first byte
  later : (n l p : ℕ) → any_below (λ k. leb (suc l) (suc k) && some (get_or b (p + suc k) 0)) n ≡ spare n l (p + 1)
  later n l p =
      any-ext _ _ n
      (λ k h. let e : p + suc k ≡ p + 1 + k = omega arith in
      ap₂ (λ (x : Bool) (y : ℕ). x && some (get_or b y 0)) (leb-same (suc l) (suc k) l k (λ g. omega arith) (λ g. omega arith)) e)

  whole : (n p : ℕ) → any_below (λ k. some (get_or b (p + k) 0)) n ≡ some (le n b p)
  whole zero p = sym (any-start _) ∙ rw (le-none 0 b p refl)
  whole (suc n) p =
      any-front _ n
      ∙ ap₂ ◌||◌ (ap (λ (k : ℕ). some (get_or b k 0)) (add-zero p)) (any-ext _ _ n (λ k h. let e : p + suc k ≡ p + 1 + k = omega arith in rw e) ∙ whole n (p + 1))
      ∙ some-both (get_or b p 0) (le n b (p + 1)) (get_or b p 0 + 256 * le n b (p + 1)) (λ e. (omega arith, omega arith)) (λ e f. omega arith)
      ∙ ap some (sym (le-more (suc n) n b p (p + 1) (omega arith) refl))

  -- such a byte is there just where the number, without its first l bytes, is not zero
  past : (n l m p : ℕ) → m ≡ min l n → spare n l p ≡ some (le n b p / 256 ^ m)
  past zero l m p e = sym (any-start _) ∙ rw (le-none 0 b p refl, zero-div)
  past (suc n) zero m p e =
      let e' : m ≡ 0 = omega arith in
      rw e' (any-ext _ _ (suc n) (λ k h. rw (le-leb 0 k (omega arith))) ∙ whole (suc n) p ∙ ap some (sym (div-one (le (suc n) b p))))
  past (suc n) (suc l) m p e =
      any-front _ n
      ∙ rw (lt-leb (suc l) 0 (omega arith))
      (later n l p
      ∙ past n l (m - 1) (p + 1) (omega arith)
      ∙ ap some (sym (shifted (get_or b p 0) (le n b (p + 1)) m (m - 1) (small p) (omega arith)) ∙ ap (λ (z : ℕ). z / 256 ^ m) (sym (le-more (suc n) n b p (p + 1) (omega arith) refl))))

-- the code's shifts
bytes-off : (x m : ℕ) → x / 2 ^ (8 * m) ≡ x / 256 ^ m
bytes-off x m = ap (λ (z : ℕ). x / z) (sym (bytes_bits m))

half_twice : (x h m : ℕ) → h ≡ 4 * m → x / 2 ^ h / 2 ^ h ≡ x / 256 ^ m
half_twice x h m e =
    let q : h + h ≡ 8 * m = omega arith in
    div-div-eq-div-mul x (2 ^ h) (2 ^ h) ∙ ap (λ (z : ℕ). x / z) (sym (pow-add 2 h h)) ∙ ap (λ (z : ℕ). x / 2 ^ z) q ∙ bytes-off x m

module _ (b : List ℕ) (small : (k : ℕ) → get_or b k 0 < 256) (here len front back few half : ℕ)
    (ef : front ≡ le 4 b (here + 4)) (eb : back ≡ le 8 b (here + 8)) (short : len ≤ 12) (e4 : few ≡ min len 4) (eh : half ≡ 4 * (len - few)) where
  -- the first four of the twelve bytes, and the last eight
  front-is : some (front / 2 ^ (8 * few)) ≡ spare b small 4 len (here + 4)
  front-is = ap some (bytes-off front few ∙ ap (λ (z : ℕ). z / 256 ^ few) ef) ∙ sym (past b small 4 len few (here + 4) e4)

  back_is : some (back / 2 ^ half / 2 ^ half) ≡ spare b small 8 (len - 4) (here + 8)
  back_is = ap some (half_twice back half (len - few) eh ∙ ap (λ (z : ℕ). z / 256 ^ (len - few)) eb) ∙ sym (past b small 8 (len - 4) (len - few) (here + 8) (omega arith))

  moved : any_below (λ k. leb len (4 + k) && some (get_or b (here + 4 + (4 + k)) 0)) 8 ≡ spare b small 8 (len - 4) (here + 8)
  moved =
      any-ext _ _ 8
      (λ k h. let e : here + 4 + (4 + k) ≡ here + 8 + k = omega arith in
      ap₂ (λ (x : Bool) (y : ℕ). x && some (get_or b y 0)) (leb-same len (4 + k) (len - 4) k (λ g. omega arith) (λ g. omega arith)) e)

  pub unused-is : some (bit_or (front / 2 ^ (8 * few)) (back / 2 ^ half / 2 ^ half)) ≡ unused_at b here len
  unfolding unused_at
  unused-is =
      sym (some_or (front / 2 ^ (8 * few)) (back / 2 ^ half / 2 ^ half))
      ∙ ap₂ ◌||◌ front-is (back_is ∙ sym moved)
      ∙ sym (any-cat (λ k. leb len k && some (get_or b (here + 4 + k) 0)) 4 8)

-- ---- a long view

module _ (b : List ℕ) (kids buffers here len prefix buffer offset : ℕ) (el : len ≡ le 4 b here) (ep : prefix ≡ le 4 b (here + 4)) (eb : buffer ≡ le 4 b (here + 8)) (eo : offset ≡ le 4 b (here + 12)) where
  -- the buffer that it names is missing
  pub long-missing : kids ≤ buffer → true ≡ (negative 4 (le 4 b here) || bad_long_at b kids buffers here)
  unfolding bad_long_at view_at
  long-missing h = sym (rw (← eb, le-leb kids buffer h) (or-true (negative 4 (le 4 b here))))

  module _ (rows : ℕ) (er : rows ≡ le 4 b (buffers + 40 * buffer)) where
    -- it ends past its buffer
    pub long-past : rows < offset + len → true ≡ (negative 4 (le 4 b here) || bad_long_at b kids buffers here)
    unfolding bad_long_at view_at
    long-past h = sym (rw (add-zero, ← eb, ← eo, ← el, ← er, lt-ltb rows (offset + len) h, or-true (leb kids buffer), or-true (negative 4 len)))

    -- it lies there
    module _ (d : DataBuffers b kids buffers) (named : buffer < kids) (ends : offset + len ≤ rows) (first skip : ℕ)
        (ef : first ≡ le 4 b (buffers + 40 * buffer + 16)) (es : skip ≡ le 4 b (buffers + 40 * buffer + 4)) where
      pub prefix-in : 12 < len → first + skip + offset + 4 ≤ length b
      prefix-in long = let w : first + skip + rows ≤ length b = rw (ef, es, er) (d.bytes buffer named) in omega arith

      pub long-is : (bytes : ℕ) → bytes ≡ le 4 b (first + skip + offset) → not (eqb prefix bytes) ≡ (negative 4 (le 4 b here) || bad_long_at b kids buffers here)
      unfolding bad_long_at view_at negative
      long-is bytes e =
          let w : rows < 2 ^ 31 = rw er (d.few buffer named) in
          sym (rw (add-zero, ← eb, ← eo, ← el, ← ep, ← er, ← ef, ← es, ← e, lt-leb (2 ^ 31) len (omega arith), lt-leb kids buffer named, le-ltb rows (offset + len) ends))

-- ---- a view

module _ (b : List ℕ) (kids buffers here len : ℕ) (el : len ≡ le 4 b here) where
  pub view-long : 12 < len → (t : Bool) → t ≡ (negative 4 (le 4 b here) || bad_long_at b kids buffers here) → t ≡ bad_view_at b kids buffers here
  unfolding bad_view_at view_at
  view-long h t e = e ∙ sym (rw (add-zero, ← el, lt-ltb 12 len h))

  pub view-short : len ≤ 12 → (t : Bool) → t ≡ unused_at b here len → t ≡ bad_view_at b kids buffers here
  unfolding bad_view_at view_at negative
  view-short h t e = e ∙ sym (rw (add-zero, ← el, le-ltb 12 len h, lt-leb (2 ^ 31) len (omega arith)))
