-- The widths of numbers one by one. Assumes nothing.
use Rattle.std.proofs.Common.{◌≡◌, ℕ, true, [], ◌∷◌, eqb, sym, ◌∙◌, ne_eqb, eqb-true}
use mathlib.Core.Bool.{or-false, or-true}
use Rattle.format.specs.Verdict.{one_of}
use Rattle.words.specs.Width.{IsWidth}

-- a width that is none of the first three is the last
pub last-width : (w : ℕ) → IsWidth w → (w ≡ 1 → ⊥) → (w ≡ 2 → ⊥) → (w ≡ 4 → ⊥) → w ≡ 8
unfolding one_of
last-width w e h1 h2 h4 = eqb-true w 8 (sym (or-false (eqb w 8)) ∙ rw (ne_eqb w 1 h1, ne_eqb w 2 h2, ne_eqb w 4 h4) at e)

-- the widths of offsets and of run ends are among them
pub wider : (w : ℕ) → one_of (2 ∷ 4 ∷ 8 ∷ []) w ≡ true → IsWidth w
unfolding one_of
wider w e = rw (e, or-true)
