-- The child rows of a list's rows, told one by one: from a row's offset to the next. Assumes nothing.
use Rattle.std.specs.Prelude.{ℕ, suc, Bool, false, ◌||◌, List, [], ◌∷◌}
use Rattle.format.specs.Bytes.{within}

-- child row x belongs to one of the rows, by their offsets o
unfoldable pub in_spans : (ℕ → ℕ) → List ℕ → ℕ → Bool
in_spans o [] x = false
in_spans o (r ∷ rs) x = within 0 (o r) (o (suc r)) x || in_spans o rs x
