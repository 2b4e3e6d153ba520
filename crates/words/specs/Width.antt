-- The widths of numbers, in bytes. Assumes nothing.
use Rattle.std.specs.Prelude.{◌≡◌, ℕ, true, [], ◌∷◌, refl}
use Rattle.format.specs.Verdict.{one_of}

-- a number has 1, 2, 4 or 8 bytes
abbrev pub IsWidth : ℕ → Type 0
IsWidth w = one_of (1 ∷ 2 ∷ 4 ∷ 8 ∷ []) w ≡ true

pub width_1 : IsWidth 1
unfolding one_of
width_1 = refl

pub width_2 : IsWidth 2
unfolding one_of
width_2 = refl

pub width_4 : IsWidth 4
unfolding one_of
width_4 = refl

pub width_8 : IsWidth 8
unfolding one_of
width_8 = refl
