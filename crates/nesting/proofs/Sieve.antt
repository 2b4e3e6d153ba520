-- Loops over a node's rows that take up the kept ones: one row more, and all of them. Assumes nothing.
use Prim.Native.Nat.{ℕ, ◌+◌, ◌≤◌, ◌<◌}
use mathlib.Core.Bool.{Bool, true, false, cond}
use mathlib.Core.List.{List, [], ◌∷◌}
use mathlib.Core.Path.{◌≡◌, refl, sym, ap}
use native.Mathlib.Numerals.{add-one}
use native.Mathlib.Omega.{arith}
use mir.Val.{bool_byte}
use lib.Dec.{lit≤}
use lib.ListN.{length, length-append}
use Rattle.format.specs.Bytes.{chosen}
use Rattle.format.specs.Node.{node_count, rows, skip}
use Rattle.format.specs.Kept.{kept_rows}
use Rattle.nesting.specs.Rows.{keeps, Ready}
use Rattle.nesting.proofs.ByKind.{rows-small, skip-small}
use Rattle.nesting.proofs.Tree.{kept-all}

-- a node that is measured: its number and its rows are few, and once they are all passed its kept rows are known
module _ {b root counts : List ℕ} {node : ℕ} (ready : Ready b root counts node) (h : node < node_count b) where
  pub node-few : node < 64
  node-few = omega (arith, ready.sound.shape.few)

  pub len-few : rows b node ≤ 1_048_576
  len-few = rows-small ready.sound node h

  pub skip-few : skip b node ≤ 1_048_576
  skip-few = skip-small ready.sound node h

  pub all-rows : (r : ℕ) → r ≡ rows b node → chosen (keeps b root node) r ≡ kept_rows b root node
  all-rows r e = rw e (sym (kept-all b root ready.sound ready.rooted node h))

pub byte_small : (t : Bool) → bool_byte t ≤ 1
byte_small true = lit≤ tt
byte_small false = lit≤ tt

module _ (p : ℕ → Bool) where
  pub count_none : 0 ≡ length (chosen p 0)
  unfolding chosen
  count_none = refl

  pub count-more : (r : ℕ) {n : ℕ} {t : Bool} → n ≡ length (chosen p r) → t ≡ p r → n + bool_byte t ≡ length (chosen p (r + 1))
  unfolding chosen
  count-more r {t = t} e h = rw (add-one r, length-append (chosen p r), e, ← h) (ap (λ (k : ℕ). length (chosen p r) + k) (go t))
    where
      go : (t : Bool) → bool_byte t ≡ length (cond t (r ∷ []) [])
      go true = refl
      go false = refl
