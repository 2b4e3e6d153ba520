-- A chain that asks whether a number of a range passes a test, as the definitions say it: of each number below n, or of each but 0. Assumes nothing.
use Rattle.std.proofs.Common.{◌≡◌, ℕ, zero, suc, ◌+◌, ◌-◌, Bool, ◌&&◌, ◌||◌, ltb, refl, sym, ap, ◌∙◌, zero-add, arith, lt-ltb}
use Rattle.std.specs.List.{list_any, range_with_len}
use Rattle.format.specs.Bytes.{any_below}
use Rattle.content.proofs.Fold.{any-ext, any-front}

any-range : (p : ℕ → Bool) (a n : ℕ) → list_any p (range_with_len a n) ≡ any_below (λ k. p (a + k)) n
unfolding any_below
any-range p a zero = refl
any-range p a (suc n) =
    let first : p a ≡ p (a + 0) = ap p (omega arith) in
    let rest : any_below (λ k. p (a + 1 + k)) n ≡ any_below (λ k. p (a + suc k)) n = any-ext _ _ n (λ k l. ap p (omega arith)) in
    ap (p a ||◌) (any-range p (a + 1) n ∙ rest) ∙ ap (◌|| any_below (λ k. p (a + suc k)) n) first ∙ sym (any-front (λ k. p (a + k)) n)

pub any-all : (p : ℕ → Bool) (n : ℕ) → list_any p (range_with_len 0 n) ≡ any_below p n
any-all p n = any-range p 0 n ∙ any-ext _ _ n (λ k l. ap p (zero-add k))

pub any-later : (p : ℕ → Bool) (n : ℕ) → list_any p (range_with_len 1 (n - 1)) ≡ any_below (λ i. ltb 0 i && p i) n
unfolding any_below
any-later p zero = refl
any-later p (suc n) =
    let e : suc n - 1 ≡ n = omega arith in
    rw (e, any-range p 1 n, any-front (λ i. ltb 0 i && p i) n) (any-ext _ _ n (λ k l. rw (lt-ltb 0 (suc k) (omega arith)) (ap p (omega arith))))
