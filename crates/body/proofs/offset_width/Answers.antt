-- `body::offset_width` meets its contract: such a list is of one of two kinds. Assumes nothing.
use mathlib.Core.Path.{sym, ◌∙◌}
use Rattle.format.specs.Accepted as is
use Rattle.body.proofs.Listed.{width-64}
use Rattle.body.proofs.offset_width.Goals as goal

pub returns-in-Nested32 : goal.returns-in-Nested32
returns-in-Nested32 c = rw (sym c.kind.ensures ∙ c.in-Nested32.is) is.Nests.nested32

pub returns-in_default : goal.returns-in_default
returns-in_default c = width-64 _ _ c.requires.listed (λ e. c.in_default.not-Nested32 (c.kind.ensures ∙ e))
