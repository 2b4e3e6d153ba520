-- That a selection has its bits in the slice is a fact. Assumes nothing.
use Rattle.std.proofs.Props.{props}
use Rattle.predicate.specs.declared.Selection.{Selection}
use Rattle.predicate.specs.declared.Selection.TheVariants.{Nothing, Everything, Words, Runs, Rows}
use Rattle.predicate.specs.Selection.{Sourced}

pub sourced_prop : (sel : Selection) → IsProp (Sourced sel)
sourced_prop Nothing = hlevel props
sourced_prop (Everything n) = hlevel props
sourced_prop (Words source) = hlevel props
sourced_prop (Runs stored) = hlevel props
sourced_prop (Rows stored) = hlevel props
