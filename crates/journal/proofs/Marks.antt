-- Whether a node has a bitmap, by where its first validity bit stands. Assumes nothing.
use Prim.Native.Nat.{ℕ, ◌+◌, ◌*◌}
use mathlib.Core.Bool.{Bool, true, false, cond}
use mathlib.Core.List.{List}
use mathlib.Core.Path.{◌≡◌, refl, sym}
use Rattle.std.specs.Prelude.{Some, None}
use Rattle.std.proofs.lemmas.Option.{same_Some, none-some}
use Rattle.format.specs.Node.{skip, validity_at, has_no_bitmap}
use Rattle.journal.specs.Marks.{first_mark}

by-none : (t : Bool) (x : ℕ) → None ≡ cond t None (Some x) → t ≡ true
by-none true x e = refl
by-none false x e = absurd (none-some x e)

by-some : (t : Bool) (x : ℕ) {y : ℕ} → Some y ≡ cond t None (Some x) → (t ≡ false) × (y ≡ x)
by-some true x {y} e = absurd (none-some y (sym e))
by-some false x e = (refl, same_Some _ x e)

module _ (b : List ℕ) (i : ℕ) where
  pub unmarked : None ≡ first_mark b i → has_no_bitmap b i ≡ true
  unmarked e = by-none (has_no_bitmap b i) _ e

  pub marked-at : {y : ℕ} → Some y ≡ first_mark b i → (has_no_bitmap b i ≡ false) × (y ≡ 8 * validity_at b i + skip b i)
  marked-at e = by-some (has_no_bitmap b i) _ e
