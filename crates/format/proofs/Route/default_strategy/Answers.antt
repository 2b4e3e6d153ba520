-- `Route::default_strategy` meets its contract. Each return is the case of `route_of` that the tests on the way to it pick, and the test on floats is one of whole numbers by `share-above`.
-- Assumes nothing.
use Rattle.std.proofs.Common.{◌≡◌, ◌*◌, Bool, true, false, cond, ltb, ⊎_elim, arith, eq-eqb, ne_eqb}
use Rattle.format.specs.Mask.{route_of}
use Rattle.format.specs.declared.Route.TheVariants.{Slices, Indices}
use Rattle.format.proofs.Threshold.{share_above, in-float, share-above}
use Rattle.format.proofs.Route.default_strategy.Goals as goal
use Rattle.format.proofs.Route.default_strategy.Goals.{Else-filter_count-filter_length}

pub returns-then-filter_length-eq0 : goal.returns-then-filter_length-eq0
unfolding route_of
returns-then-filter_length-eq0 c = ⊎_elim (λ w. simp (eq-eqb c.args.filter_length 0 w)) (λ w. simp (ne_eqb c.args.filter_length 0 w.0, eq-eqb c.args.filter_count 0 w.1)) c.then-filter_length-eq0.either

pub returns-then-filter_count-filter_length : goal.returns-then-filter_count-filter_length
unfolding route_of
returns-then-filter_count-filter_length c =
    simp (ne_eqb _ _ c.if-filter_length-eq0.false, ne_eqb _ _ c.if-filter_count-eq0.false, eq-eqb _ _ c.if-filter_count-filter_length.true)

pub int_to_float-selectivity_frac : goal.int_to_float-selectivity_frac
int_to_float-selectivity_frac c = in-float _ c.requires.1

pub int_to_float-selectivity_frac-2 : goal.int_to_float-selectivity_frac-2
int_to_float-selectivity_frac-2 c = in-float _ c.requires.0

-- past the tests on whole numbers, the one on floats picks the route
by-share : (c : Else-filter_count-filter_length) (above : Bool) →
    let l = c.args.filter_length in
    let n = c.args.filter_count in
    share_above l n ≡ above → cond above Slices Indices ≡ route_of l n
unfolding route_of
by-share c above test =
    let l = c.args.filter_length in
    let n = c.args.filter_count in
    let some-rows : l ≡ 0 → ⊥ = c.if-filter_length-eq0.false in
    let some-picked : n ≡ 0 → ⊥ = c.if-filter_count-eq0.false in
    let whole : share_above l n ≡ ltb (4 * l) (5 * n) = share-above l n (omega arith) (omega arith) c.requires.0 c.requires.1 in
    simp (ne_eqb l 0 some-rows, ne_eqb n 0 some-picked, ne_eqb n l c.if-filter_count-filter_length.false, ← whole, test)

pub returns-then-selectivity_frac : goal.returns-then-selectivity_frac
returns-then-selectivity_frac c = by-share c.before.before.before true c.if-selectivity_frac.true

pub returns : goal.returns
returns c = by-share c.before.before.before false c.if-selectivity_frac.false
