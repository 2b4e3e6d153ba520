-- `checker::contents::bad_dictionary` meets its contract. Assumes nothing.
use Prim.Native.Nat.{◌*◌, ◌+◌, ◌≤◌}
use lib.ListN.{length}
use mathlib.Core.Bool.{true}
use mathlib.Core.List.{[], ◌∷◌}
use mathlib.Core.Path.{◌∙◌, ◌≡◌}
use native.Mathlib.Omega.{arith}
use Rattle.format.specs.Node.{kind}
use Rattle.format.specs.Verdict.{one_of}
use Rattle.pack.proofs.Bitmap.{none-at, one-at}
use Rattle.checker.proofs.Fits.{kind-read}
use Rattle.checker.proofs.Inside.{Looked, bits_in, keys-are, keys_in, valid-keys-are}
use Rattle.checker.proofs.contents.bad_dictionary.Goals as goal
use Rattle.checker.proofs.contents.bad_dictionary.Goals.{After-child_rows-limit}

looked : (c : After-child_rows-limit) → let n = c.before.before.before in let s = n.before.before in
    Looked s.args.pack.now s.args.i n.node_at-n.result (kind s.args.pack.now s.args.i) c.child_rows-limit.result
looked c =
    let n = c.before.before.before in
    let s = n.before.before in
    record { laid = s.requires.laid; inside = s.requires.i_bound.0; read = n.node_at-n.ensures; known = kind-read _ _ n.node_at-n.ensures; under = c.child_rows-limit.ensures }

keys-inside : (c : After-child_rows-limit) → let n = c.node_at-n.result in
    (one_of (1 ∷ 2 ∷ 4 ∷ 8 ∷ []) n.param ≡ true) × (n.first_at + n.param * n.skip + n.param * n.rows ≤ length c.args.pack.now)
keys-inside c = keys_in (looked c) c.requires.i_bound.1

pub overflow_mul-at : goal.overflow_mul-at
overflow_mul-at c = omega (arith, (keys-inside (goal.at.overflow_mul-at c).After-child_rows-limit).1)

pub overflow_add-at : goal.overflow_add-at
overflow_add-at c = omega (arith, (keys-inside (goal.at.overflow_add-at c).After-child_rows-limit).1)

pub bad_keys-requires : goal.bad_keys-requires
bad_keys-requires c = keys-inside (goal.at.bad_keys-requires c).After-child_rows-limit

pub returns-in-None : goal.returns-in-None
returns-in-None c = c.bad_keys.ensures ∙ keys-are (looked (goal.at.returns-in-None c).After-child_rows-limit) (none-at _ _ _ c.bitmap.ensures c.in-None.is)

pub bad_valid_keys-requires : goal.bad_valid_keys-requires
bad_valid_keys-requires c =
    let s = one-at _ _ _ _ c.bitmap.ensures c.in-Some.is in
    let l = (goal.at.bad_valid_keys-requires c).After-child_rows-limit in
    record { w_value = keys-inside l; n_bound = rw (s.0) (bits_in (looked l) (s.1)) }

pub returns-in-Some : goal.returns-in-Some
returns-in-Some c =
    let s = one-at _ _ _ _ c.bitmap.ensures c.in-Some.is in
    c.bad_valid_keys.ensures ∙ rw (s.0) (valid-keys-are (looked (goal.at.returns-in-Some c).After-child_rows-limit) (s.1))
