-- `nesting::Handing::of` meets its contract: by the kind. Assumes nothing.
use mathlib.Core.Path.{sym, ◌∙◌}
use Rattle.format.specs.Accepted as is
use Rattle.nesting.proofs.Handed.{apart}
use Rattle.nesting.proofs.Handing.of.Goals as goal

pub new-requires-in-Nested32-clause-is_list : goal.new-requires-in-Nested32-clause-is_list
new-requires-in-Nested32-clause-is_list c = rw (sym c.kind.ensures ∙ c.in-Nested32.is) is.Nests.nested32

pub new-requires-in-Nested64-clause-is_list : goal.new-requires-in-Nested64-clause-is_list
new-requires-in-Nested64-clause-is_list c = rw (sym c.kind.ensures ∙ c.in-Nested64.is) is.Nests.nested64

pub returns-in-Struct : goal.returns-in-Struct
returns-in-Struct c = rw (sym c.kind.ensures ∙ c.in-Struct.is) is.Shares.struct

pub returns-in-Union : goal.returns-in-Union
returns-in-Union c = rw (sym c.kind.ensures ∙ c.in-Union.is) is.Shares.union

pub returns-in_default : goal.returns-in_default
returns-in_default c = let d = c.in_default in apart c.kind.ensures d.not-Runs d.not-Struct d.not-Union d.not-Nested32 d.not-Nested64
