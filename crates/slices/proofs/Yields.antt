-- An iterator over runs gives those that are left, one after another; each slot starts at most one run. Assumes nothing.
use Rattle.std.proofs.Common.{◌≡◌, ◌==◌, ℕ, zero, suc, ◌+◌, ◌≤◌, Bool, true, false, List, [], ◌∷◌, length, sym, ap, ◌∙◌, arith}
use Rattle.std.specs.Prelude.{Option, Some, None}
use Rattle.std.specs.Option.{option_map_or}
use Rattle.std.specs.Iterator.{MakesProgress, item_count}
use Rattle.std.proofs.lemmas.Iterator.{YieldsList}
use Rattle.std.proofs.lemmas.Iterator.Consumers.{YieldsList-from_shown}
use Rattle.format.specs.Slots.{runs_from, joined, join_if, FirstRun}
use Rattle.format.proofs.SlotLaws.{runs-next, runs_none}
use Rattle.slots.specs.Source.{slot_of}
use Rattle.scan.proofs.Asked.{first_run-is, first-end}
use Rattle.slices.specs.declared.SlicesIterator.{SlicesIterator}
use Rattle.slices.specs.Reader.{runs_left, Stands, GivesRun}

-- ---- a call of `next`

-- where it gives a run, that is the first maximal run, and the iterator then stands at its end
pub gives-first : (i t : SlicesIterator) (r : ℕ × ℕ) → GivesRun i (Some r) t → FirstRun (slot_of i.mask.now i.bits) i.at i.bits.len r.0 r.1
gives-first i t r g = first_run-is {p = slot_of i.mask.now i.bits} g.0

pub left-some : (i t : SlicesIterator) (r : ℕ × ℕ) → GivesRun i (Some r) t → runs_left i ≡ r ∷ runs_left t
left-some i t r g =
    let moved : t ≡ record { mask = i.mask; bits = i.bits; at = r.1 } = g.1 ∙ ap (λ (o : Option (ℕ × ℕ)). record { mask = i.mask; bits = i.bits; at = option_map_or (λ x. x.1) o i.bits.len }) (sym g.0) in
    rw moved (runs-next (gives-first i t r g))

-- and else none is left
pub left-none : (i t : SlicesIterator) → GivesRun i None t → runs_left i ≡ []
left-none i t g = runs_none {p = slot_of i.mask.now i.bits} (first-end g.0)

pub runs-given : (i : SlicesIterator) → YieldsList GivesRun (λ r. r) i (runs_left i)
runs-given = YieldsList-from_shown GivesRun (λ r. r) runs_left (λ i t g. ap length (left-none i t g)) (λ i r t g. left-some i t r g)

-- it comes nearer its end, and its bits lie where they lay
pub goes : (i t : SlicesIterator) (r : Option (ℕ × ℕ)) → Stands i → GivesRun i r t → MakesProgress {S = SlicesIterator} {A = ℕ × ℕ} Stands (item_count runs_left) i r t
goes i t None h g = record { on = λ _. tt; keeps = tt; rests = λ _. tt }
goes i t (Some r) h g = record { on = λ _. (rw g.1 h, tt, omega (arith, ap length (left-some i t r g))); keeps = rw g.1 h; rests = λ _. tt }

-- ---- how many runs there are

length-joined : (t : Bool) (i : ℕ) (r : ℕ × ℕ) (rs : List (ℕ × ℕ)) → length (joined t i r rs) ≤ length rs + 2
length-joined true i r rs = omega arith
length-joined false i r rs = omega arith

length-join : (t : Bool) (i : ℕ) (rs : List (ℕ × ℕ)) → length (join_if t i rs) ≤ length rs + 1
length-join false i rs = omega arith
length-join true i [] = omega arith
length-join true i (r ∷ rs) = omega (arith, length-joined (r.0 == suc i) i r rs)

-- no more than slots
pub few : (p : ℕ → Bool) (n i : ℕ) → length (runs_from p n i) ≤ n
unfolding runs_from
few p zero i = omega arith
few p (suc n) i = omega (arith, length-join (p i) i (runs_from p n (suc i)), few p n (suc i))
