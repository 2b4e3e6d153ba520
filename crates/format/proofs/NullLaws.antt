-- Null counts: the rows that are not marked valid are those left by the ones that are. Assumes nothing.
use Rattle.std.proofs.Common.{◌≡◌, ℕ, zero, suc, ◌+◌, ◌-◌, ◌<◌, ◌≤◌, Bool, true, false, not, List, [], ◌∷◌, length, get_or, sym, refl, ap, ◌∙◌, true≢false, add-zero, zero-add, arith}
use Rattle.format.specs.Bytes.{one, chosen}
use Rattle.format.specs.Slots.{pick, picks_from}
use Rattle.format.specs.Write.{nulls, any_null}
use Rattle.format.proofs.SlotLaws.{chosen-picks, picks-none}

-- those that pass a test and those that do not are all
both : (p : ℕ → Bool) (n i : ℕ) → length (picks_from p n i) + length (picks_from (λ r. not (p r)) n i) ≡ n
unfolding picks_from
both p zero i = refl
both p (suc n) i = step (p i) (both p n (suc i))
  where
    step : (t : Bool) → length (picks_from p n (suc i)) + length (picks_from (λ r. not (p r)) n (suc i)) ≡ n
        → length (pick t i (picks_from p n (suc i))) + length (pick (not t) i (picks_from (λ r. not (p r)) n (suc i))) ≡ suc n
    step true e = omega arith
    step false e = omega arith

pub not-picked : (p : ℕ → Bool) (n : ℕ) → n - length (picks_from p n 0) ≡ length (chosen (λ r. not (p r)) n)
not-picked p n = rw chosen-picks (omega (arith, both p n 0))

pub none-chosen : (p : ℕ → Bool) (n : ℕ) → ((r : ℕ) → p r ≡ false) → length (chosen p n) ≡ 0
none-chosen p n h = rw (chosen-picks, picks-none p n 0 (record { at = λ r _ _. h r }))

-- no more rows are null than there are, and where none is the count is 0
pub few-nulls : (vs : List Bool) → nulls vs ≤ length vs
unfolding nulls
few-nulls [] = omega arith
few-nulls (true ∷ vs) = omega (arith, few-nulls vs)
few-nulls (false ∷ vs) = omega (arith, few-nulls vs)

pub no-nulls : (vs : List Bool) → any_null vs ≡ false → nulls vs ≡ 0
unfolding nulls any_null
no-nulls [] h = refl
no-nulls (true ∷ vs) h = rw zero-add (no-nulls vs h)
no-nulls (false ∷ vs) h = absurd (true≢false h)

-- the marks' nulls are as many as a test of each row finds
nulls-from : (vs : List Bool) (p : ℕ → Bool) (i : ℕ) → ((r : ℕ) → r < length vs → p (i + r) ≡ get_or vs r false)
    → length (picks_from (λ r. not (p r)) (length vs) i) ≡ nulls vs
unfolding nulls picks_from
nulls-from [] p i h = refl
nulls-from (v ∷ vs) p i h =
    let here : p i ≡ v = ap p (sym (add-zero i)) ∙ h 0 (omega arith) in
    let ih : length (picks_from (λ r. not (p r)) (length vs) (suc i)) ≡ nulls vs =
    nulls-from vs p (suc i) (λ r l. ap p (omega arith) ∙ h (suc r) (omega arith)) in
    rw here (go v ih)
  where
    go : (t : Bool) → length (picks_from (λ r. not (p r)) (length vs) (suc i)) ≡ nulls vs
        → length (pick (not t) i (picks_from (λ r. not (p r)) (length vs) (suc i))) ≡ one (not t) + nulls vs
    go true q = omega arith
    go false q = omega arith

pub count-nulls : (vs : List Bool) (p : ℕ → Bool) → ((r : ℕ) → r < length vs → p r ≡ get_or vs r false) → length (chosen (λ r. not (p r)) (length vs)) ≡ nulls vs
count-nulls vs p h = rw chosen-picks (nulls-from vs p 0 (λ r l. ap p (zero-add r) ∙ h r l))
