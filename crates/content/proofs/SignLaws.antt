-- The widths of numbers, and numbers compared as signed ones: with their sign bit turned. Assumes nothing.
use Rattle.std.proofs.Common.{◌≡◌, ℕ, suc, ◌+◌, ◌-◌, ◌*◌, ◌%◌, ◌^◌, ◌<◌, ◌≤◌, Bool, true, false, ◌||◌, ltb, leb, List, sym, refl, ap, ◌∙◌, mod-lt, mod-eq_of_lt, arith, le-ltb, lt-ltb, le-leb, leb-false}
use Rattle.std.proofs.Math.Nat.{add-mod_right}
use Rattle.std.proofs.Math.Pow.{pow_pos}
use mathlib.Core.Bool.{or_assoc, or-false, or-true}
use mathlib.Core.Logic.{dite}
use native.Mathlib.Decide.{dec_le, ℕ_discrete}
use borrow.Author.Tests.{lt-leb}
use lib.Bits.{bit_or, and_le_l, and_le_r, or_lt, or_add_and}
use Rattle.words.specs.Width.{IsWidth}
use Rattle.words.proofs.Widths.{last-width}
use Rattle.format.specs.Bytes.{any_below, negative}
use Rattle.format.proofs.Accepted.{or_left, or_right}
use Rattle.format.proofs.WordLaws.{bytes_bits}
use Rattle.content.specs.Numbers.{number, falls, bad_offsets_at, bad_range_at, bad_runs_at, start_at}
use Rattle.content.proofs.Fold.{any-more, any-start}

-- ---- what holds of each width

module _ (P : ℕ → Type 0) (at-1 : P 1) (at-2 : P 2) (at-4 : P 4) (at-8 : P 8) where
  each : (w : ℕ) → IsWidth w → P w
  each w h =
      dite (ℕ_discrete w 1) (λ e. rw e at-1)
      (λ e1. dite (ℕ_discrete w 2) (λ e. rw e at-2)
      (λ e2. dite (ℕ_discrete w 4) (λ e. rw e at-4) (λ e4. rw (last-width w h e1 e2 e4) at-8)))

pub width-some : (w : ℕ) → IsWidth w → 0 < w
width-some = each (λ w. 0 < w) (omega arith) (omega arith) (omega arith) (omega arith)

pub width-few : (w : ℕ) → IsWidth w → w ≤ 8
width-few = each (λ w. w ≤ 8) (omega arith) (omega arith) (omega arith) (omega arith)

-- the numbers of w bytes are twice those that are not negative
halves : (w : ℕ) → IsWidth w → 256 ^ w ≡ 2 ^ (8 * w - 1) + 2 ^ (8 * w - 1)
halves = each (λ w. 256 ^ w ≡ 2 ^ (8 * w - 1) + 2 ^ (8 * w - 1)) refl refl refl refl

pub power_some : (w : ℕ) → 0 < 256 ^ w
power_some w = rw bytes_bits (pow_pos (8 * w))

-- a number of 8 bytes is cut to w
pub cut : (w : ℕ) → IsWidth w → (x : ℕ) → x % 2 ^ 64 % 256 ^ w ≡ x % 256 ^ w
cut = each (λ w. (x : ℕ) → x % 2 ^ 64 % 256 ^ w ≡ x % 256 ^ w) (λ x. omega arith) (λ x. omega arith) (λ x. omega arith) (λ x. omega arith)

-- what is left of x less y, which wraps where x is less
abbrev Left : ℕ → Type 0
Left w = (x y : ℕ) → x < 256 ^ w → y < 256 ^ w → (y ≤ x → (x + (2 ^ 64 - y)) % 2 ^ 64 % 256 ^ w ≤ x) × (x < y → x < (x + (2 ^ 64 - y)) % 2 ^ 64 % 256 ^ w)

left : (w : ℕ) → IsWidth w → Left w
left =
    each Left
    (λ x y hx hy. (λ h. omega arith, λ h. omega arith))
    (λ x y hx hy. (λ h. omega arith, λ h. omega arith))
    (λ x y hx hy. (λ h. omega arith, λ h. omega arith))
    (λ x y hx hy. (λ h. omega arith, λ h. omega arith))

pub left-is : (w : ℕ) → IsWidth w → (x y : ℕ) → x < 256 ^ w → y < 256 ^ w → leb ((x + (2 ^ 64 - y)) % 2 ^ 64 % 256 ^ w) x ≡ leb y x
left-is w W x y hx hy =
    dite (dec_le y x)
    (λ h. rw (le-leb _ x ((left w W x y hx hy).0 h), le-leb y x h))
    (λ h. rw (lt-leb _ x ((left w W x y hx hy).1 (omega arith)), lt-leb y x (omega arith)))

-- ---- signed numbers

-- p and q are numbers with their sign bit turned, of two halves h of m; the second is not negative
module _ (h m low high p q : ℕ) (half : m ≡ h + h) (hl : low < h) (hh : high < m) (ep : p ≡ (high + h) % m) (eq : q ≡ (low + h) % m) where
  turned-low : q ≡ low + h
  turned-low = eq ∙ mod-eq_of_lt (omega arith)

  turned-high : high < h → p ≡ high + h
  turned-high f = ep ∙ mod-eq_of_lt (omega arith)

  turned-negative : h ≤ high → p + h ≡ high
  turned-negative f =
      let over : high + h ≡ high - h + m = omega arith in
      let low : high - h < m = omega arith in
      let e : p ≡ high - h = ep ∙ rw over (add-mod_right (high - h) m) ∙ mod-eq_of_lt low in
      omega arith

  falls-turned : ltb p q ≡ (leb h high || ltb high low)
  falls-turned =
      dite (dec_le h high)
      (λ f. rw (le-leb h high f, lt-ltb p q (omega (arith, turned-low, turned-negative f))))
      (λ f.
      let lh : high < h = omega arith in
      dite (dec_le low high)
      (λ g. rw (lt-leb h high lh, le-ltb p q (omega (arith, turned-low, turned-high lh)), le-ltb high low g))
      (λ g. rw (lt-leb h high lh, lt-ltb p q (omega (arith, turned-low, turned-high lh)), lt-ltb high low (omega arith))))

  stalls-turned : leb p q ≡ (leb h high || leb high low)
  stalls-turned =
      dite (dec_le h high)
      (λ f. rw (le-leb h high f, le-leb p q (omega (arith, turned-low, turned-negative f))))
      (λ f.
      let lh : high < h = omega arith in
      dite (dec_le high low)
      (λ g. rw (lt-leb h high lh, le-leb p q (omega (arith, turned-low, turned-high lh)), le-leb high low g))
      (λ g. rw (lt-leb h high lh, lt-leb p q (omega (arith, turned-low, turned-high lh)), lt-leb high low (omega arith))))

-- ---- the loops over offsets and run ends

-- run end j is negative, or not above the one before it
abbrev pub sinks : ℕ → List ℕ → ℕ → ℕ → Bool
sinks w b at j = negative w (number w b at j) || leb (number w b at j) (start_at w b at j)

-- the flag says what was seen, and number i is not negative where it says nothing
pub record Flagged (w : ℕ) (b : List ℕ) (at : ℕ) (seen flag : Bool) (i : ℕ) : Type 0 where
  pub is : flag ≡ seen
  pub plain : flag ≡ false → number w b at i < 2 ^ (8 * w - 1)

module _ (w : ℕ) (W : IsWidth w) (b : List ℕ) (at : ℕ) where
  pub falls-start : (first : ℕ) → first ≡ number w b at 0 → Flagged w b at (negative w (number w b at 0) || any_below (falls w b at) 0) (leb (2 ^ (8 * w - 1)) first) 0
  unfolding negative any_below
  falls-start first e = record { is = rw e (sym (or-false (leb (2 ^ (8 * w - 1)) (number w b at 0)))); plain = λ f. leb-false _ _ (rw e at f) }

  pub sinks-start : (first p q : ℕ) → first ≡ number w b at 0 → first < 256 ^ w → p ≡ (first + 2 ^ (8 * w - 1)) % 256 ^ w → q ≡ (0 + 2 ^ (8 * w - 1)) % 256 ^ w → Flagged w b at (any_below (sinks w b at) 1) (leb p q) 0
  unfolding negative any_below start_at
  sinks-start first p q e few ep eq =
      let same = stalls-turned (2 ^ (8 * w - 1)) (256 ^ w) 0 first p q (halves w W) (pow_pos (8 * w - 1)) few ep eq in
      record { is = same ∙ rw e; plain = λ f. leb-false _ _ (or_left _ _ (rw e at (sym same ∙ f))) }

  falls-not : (i : ℕ) → falls w b at i ≡ false → number w b at (suc i) < 2 ^ (8 * w - 1)
  unfolding falls negative
  falls-not i e = leb-false _ _ (or_left (leb (2 ^ (8 * w - 1)) (number w b at (suc i))) _ e)

  sinks-not : (i : ℕ) → sinks w b at i ≡ false → number w b at i < 2 ^ (8 * w - 1)
  unfolding negative
  sinks-not i e = leb-false _ _ (or_left (leb (2 ^ (8 * w - 1)) (number w b at i)) _ e)

  -- what a turn's test adds
  flag-more : (seen flag t r : Bool) (i : ℕ) → Flagged w b at seen flag i → (number w b at i < 2 ^ (8 * w - 1) → t ≡ r) → (r ≡ false → number w b at (suc i) < 2 ^ (8 * w - 1))
      → Flagged w b at (seen || r) (flag || t) (suc i)
  flag-more seen flag t r i s same next =
      record {
        is = go flag refl ∙ ap (◌|| r) s.is;
        plain = λ f. next (sym (same (s.plain (or_left flag t f))) ∙ or_right flag t f);
      }
    where
      go : (v : Bool) → flag ≡ v → (flag || t) ≡ (flag || r)
      go true e = rw e
      go false e = rw (e, same (s.plain e))

  -- a turn over numbers i and i + 1
  module _ (flag : Bool) (i j low high p q : ℕ) (n : j ≡ i + 1) (el : low ≡ number w b at i) (eh : high ≡ number w b at j) (few : high < 256 ^ w)
      (ep : p ≡ (high + 2 ^ (8 * w - 1)) % 256 ^ w) (eq : q ≡ (low + 2 ^ (8 * w - 1)) % 256 ^ w) where
    behind : j ≡ suc i
    behind = omega arith

    fall-is : number w b at i < 2 ^ (8 * w - 1) → ltb p q ≡ falls w b at i
    unfolding falls negative
    fall-is h = falls-turned (2 ^ (8 * w - 1)) (256 ^ w) low high p q (halves w W) (rw el h) few ep eq ∙ rw (← behind, ← el, ← eh)

    sink-is : number w b at i < 2 ^ (8 * w - 1) → leb p q ≡ sinks w b at (suc i)
    unfolding negative start_at
    sink-is h = stalls-turned (2 ^ (8 * w - 1)) (256 ^ w) low high p q (halves w W) (rw el h) few ep eq ∙ rw (← behind, ← el, ← eh)

    pub falls-more : Flagged w b at (negative w (number w b at 0) || any_below (falls w b at) i) flag i
        → Flagged w b at (negative w (number w b at 0) || any_below (falls w b at) j) (flag || ltb p q) j
    falls-more s =
        let more = flag-more _ flag (ltb p q) (falls w b at i) i s fall-is (falls-not i) in
        let first = negative w (number w b at 0) in
        rw behind (record { is = more.is ∙ or_assoc first (any_below (falls w b at) i) (falls w b at i) ∙ ap (first ||◌) (any-more (falls w b at) i (suc i) refl refl (omega arith)); plain = more.plain })

    pub sinks-more : Flagged w b at (any_below (sinks w b at) (suc i)) flag i → Flagged w b at (any_below (sinks w b at) (suc j)) (flag || leb p q) j
    sinks-more s =
        let more = flag-more _ flag (leb p q) (sinks w b at (suc i)) i s sink-is (sinks-not (suc i)) in
        rw behind (record { is = more.is ∙ any-more (sinks w b at) (suc i) (suc (suc i)) refl refl (omega arith); plain = more.plain })

pub offsets-are : (w : ℕ) (b : List ℕ) (at n limit i last : ℕ) {flag : Bool} → Flagged w b at (negative w (number w b at 0) || any_below (falls w b at) i) flag i → i ≡ n
    → last ≡ number w b at n → (flag || ltb limit last) ≡ bad_offsets_at w b at n limit
unfolding bad_offsets_at
offsets-are w b at n limit i last s e l = rw (s.is, l, e)

pub runs-are : (w : ℕ) (b : List ℕ) (at n places i last : ℕ) {flag : Bool} → Flagged w b at (any_below (sinks w b at) (suc i)) flag i → n ≡ suc i
    → last ≡ number w b at i → (flag || ltb last places) ≡ bad_runs_at w b at n places
unfolding bad_runs_at start_at
runs-are w b at n places i last s e l = rw (s.is, l, e)

-- ---- list views

-- the sign of numbers that are joined
top-or : (k a b : ℕ) → leb (2 ^ k) (bit_or a b) ≡ (leb (2 ^ k) a || leb (2 ^ k) b)
top-or k a b =
    dite (dec_le (2 ^ k) a)
    (λ h. rw (le-leb (2 ^ k) (bit_or a b) (omega (arith, or_add_and a b, and_le_r a b)), le-leb (2 ^ k) a h))
    (λ h.
    dite (dec_le (2 ^ k) b)
    (λ g. rw (le-leb (2 ^ k) (bit_or a b) (omega (arith, or_add_and a b, and_le_l a b)), le-leb (2 ^ k) b g) (sym (or-true (leb (2 ^ k) a))))
    (λ g.
    let la : a < 2 ^ k = omega arith in
    let lb : b < 2 ^ k = omega arith in
    rw (lt-leb (2 ^ k) (bit_or a b) (or_lt k a b la lb), lt-leb (2 ^ k) a la, lt-leb (2 ^ k) b lb)))

regroup : (a o z f e : Bool) → (((a || o) || z) || (f || e)) ≡ ((a || f) || ((o || z) || e))
regroup true o z f e = refl
regroup false o z true e = or-true (o || z)
regroup false o z false e = refl

-- before turn i: the signs fit, and they and the flag say together what was seen
pub record Joined (w : ℕ) (b : List ℕ) (at sizes limit signs : ℕ) (flag : Bool) (i : ℕ) : Type 0 where
  pub fits : signs < 256 ^ w
  pub is : (leb (2 ^ (8 * w - 1)) signs || flag) ≡ any_below (bad_range_at w b at sizes limit) i

module _ (w : ℕ) (W : IsWidth w) (b : List ℕ) (at sizes limit : ℕ) where
  pub joined-start : (signs : ℕ) → signs ≡ 0 % 256 ^ w → Joined w b at sizes limit signs false 0
  joined-start signs e =
      let none : signs ≡ 0 = e ∙ mod-eq_of_lt (power_some w) in
      record { fits = rw none (power_some w); is = rw (none, lt-leb (2 ^ (8 * w - 1)) 0 (pow_pos (8 * w - 1))) (any-start _) }

  -- list view i, whose offset and size are o and z; `end` is what fits of their sum
  module _ (signs i j o z end both : ℕ) (flag : Bool) (n : j ≡ i + 1) (eo : o ≡ number w b at i) (ho : o < 256 ^ w) (ez : z ≡ number w b sizes i) (hz : z < 256 ^ w)
      (ee : end ≡ (o + z) % 2 ^ 64 % 256 ^ w) (eb : both ≡ bit_or (bit_or signs o) z % 256 ^ w) (s : Joined w b at sizes limit signs flag i) where
    whole : both ≡ bit_or (bit_or signs o) z
    whole =
        eb
        ∙ mod-eq_of_lt
        (rw bytes_bits (or_lt (8 * w) (bit_or signs o) z (or_lt (8 * w) signs o (rw bytes_bits at s.fits) (rw bytes_bits at ho)) (rw bytes_bits at hz)))

    -- the sum fits where neither is negative
    same-end : o < 2 ^ (8 * w - 1) → z < 2 ^ (8 * w - 1) → end ≡ o + z
    same-end ho hz = ee ∙ cut w W (o + z) ∙ mod-eq_of_lt (omega (arith, halves w W))

    range-is : (leb (2 ^ (8 * w - 1)) o || leb (2 ^ (8 * w - 1)) z || ltb limit end) ≡ bad_range_at w b at sizes limit i
    unfolding bad_range_at negative
    range-is =
        rw (← eo, ← ez)
        (dite (dec_le (2 ^ (8 * w - 1)) o) (λ g. rw (le-leb (2 ^ (8 * w - 1)) o g))
        (λ g.
        dite (dec_le (2 ^ (8 * w - 1)) z) (λ f. rw (le-leb (2 ^ (8 * w - 1)) z f, or-true (leb (2 ^ (8 * w - 1)) o)))
        (λ f. rw (same-end (omega arith) (omega arith)))))

    pub joined-more : Joined w b at sizes limit both (flag || ltb limit end) j
    joined-more =
        record {
          fits = rw eb (mod-lt _ (power_some w));
          is = rw (whole, top-or, top-or) (regroup (leb (2 ^ (8 * w - 1)) signs) _ _ flag _ ∙ any-more _ i j s.is range-is n);
        }
