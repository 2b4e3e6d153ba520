-- The rows that each node keeps, as a selection. Assumes nothing.
use Rattle.std.specs.Prelude.{ℕ, ◌≤◌, cond, List, ◌≡◌, eqb}
use Rattle.format.specs.Node.{rows}
use Rattle.format.specs.Kept.{kept_rows}
use Rattle.predicate.specs.declared.Selection.{Selection}
use Rattle.predicate.specs.declared.Selection.TheVariants.{Nothing, Everything}
use Rattle.predicate.specs.Selection.{selected, reach, Sourced}

-- none of n rows where none is kept, and else all
abbrev pub none_or_all : ℕ → ℕ → Selection
none_or_all kept n = cond (eqb kept 0) Nothing (Everything n)

-- a selection of the rows that node i keeps
pub record Selects (b root : List ℕ) (i : ℕ) (sel : Selection) : Type 0 where
  pub sourced : Sourced sel
  pub kept : selected sel ≡ kept_rows b root i
  pub short : reach sel ≤ rows b i
