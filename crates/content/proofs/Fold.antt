-- A loop that folds a test of each number below n into one flag: `bad ≡ any_below p i` before turn i. Assumes nothing.
--     any-start, any-more, any-end     before the first turn; a turn, `bad | p i`; after the last
--     any-ext, any-never               the same by other tests; by tests that never hold
--     any-front, any-and               the first test by itself; a second test beside each
--     any-range                        the same by a chain over a range
use Rattle.std.proofs.Common.{◌≡◌, ℕ, zero, suc, ◌+◌, ◌<◌, ◌≤◌, Bool, false, ◌&&◌, ◌||◌, sym, refl, ap, ◌∙◌, ap₂, add-zero, zero-add, arith}
use Rattle.std.specs.List.{list_any, range_with_len}
use mathlib.Core.Bool.{and-false, or-false, or_assoc}
use Rattle.format.specs.Bytes.{any_below}
use Rattle.format.proofs.Accepted.{or_left, or_right}

pub any-start : (p : ℕ → Bool) → false ≡ any_below p 0
unfolding any_below
any-start p = refl

pub any-more : (p : ℕ → Bool) (i j : ℕ) {bad t : Bool} → bad ≡ any_below p i → t ≡ p i → j ≡ i + 1 → (bad || t) ≡ any_below p j
unfolding any_below
any-more p i j b e n =
    let n' : j ≡ suc i = omega arith in
    rw (n', b, e)

pub any-end : (p : ℕ → Bool) (i n : ℕ) {bad : Bool} → i ≤ n → n ≤ i → bad ≡ any_below p i → bad ≡ any_below p n
any-end p i n l h e = let q : n ≡ i = omega arith in rw q e

pub any-ext : (p q : ℕ → Bool) (n : ℕ) → ((r : ℕ) → r < n → p r ≡ q r) → any_below p n ≡ any_below q n
unfolding any_below
any-ext p q zero h = refl
any-ext p q (suc n) h = ap₂ ◌||◌ (any-ext p q n (λ r l. h r (omega arith))) (h n (omega arith))

pub any-never : (p : ℕ → Bool) (n : ℕ) → ((r : ℕ) → p r ≡ false) → any_below p n ≡ false
unfolding any_below
any-never p zero h = refl
any-never p (suc n) h = rw (any-never p n h, h n)

pub any-front : (p : ℕ → Bool) (n : ℕ) → any_below p (suc n) ≡ (p 0 || any_below (λ r. p (suc r)) n)
unfolding any_below
any-front p zero = sym (or-false (p 0))
any-front p (suc n) = rw (any-front p n, or_assoc)

any-from : (p : ℕ → Bool) (a n : ℕ) → list_any p (range_with_len a n) ≡ any_below (λ r. p (a + r)) n
any-from p a zero = any-start (λ r. p (a + r))
any-from p a (suc n) =
    ap₂ ◌||◌ (ap p (sym (add-zero a))) (any-from p (a + 1) n ∙ any-ext _ _ n (λ r l. let e : a + 1 + r ≡ a + suc r = omega arith in rw e))
    ∙ sym (any-front (λ r. p (a + r)) n)

pub any-range : (p : ℕ → Bool) (n : ℕ) → list_any p (range_with_len 0 n) ≡ any_below p n
any-range p n = any-from p 0 n ∙ any-ext _ _ n (λ r l. rw zero-add)

pub any-and : (v p : ℕ → Bool) (n : ℕ) → any_below p n ≡ false → any_below (λ r. v r && p r) n ≡ false
unfolding any_below
any-and v p zero h = refl
any-and v p (suc n) h = rw (any-and v p n (or_left (any_below p n) (p n) h), or_right (any_below p n) (p n) h) (and-false (v n))
