-- `prepare::Mask::list_entries` meets its contract: the entries are those of the mask's list. Assumes nothing.
use mathlib.Core.Path.{ap, ◌∙◌}
use native.Mathlib.Omega.{arith}
use lib.ListN.{length}
use Rattle.prepare.proofs.Slips.{kept-is, few-slots, entries-are}
use Rattle.prepare.proofs.Mask.list_entries.Goals as goal

pub list_entries-requires : goal.list_entries-requires
list_entries-requires c = let k = c.args.self.counted in (omega (arith, few-slots k), kept-is k)

pub returns : goal.returns
returns c = c.list_entries.ensures ∙ ap length (entries-are c.args.self.counted c.args.self.goes)
