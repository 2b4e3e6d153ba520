-- `nesting::plain_entries` meets its contract. Assumes nothing.
use mathlib.Core.Bool.{◌&&◌}
use mathlib.Core.Path.{ap, ◌∙◌}
use lib.Dec.{eqb}
use Rattle.format.specs.Node.{no_bitmap}
use Rattle.nesting.proofs.Handed.{entries-yes, entries-no}
use Rattle.nesting.proofs.plain_entries.Goals as goal
use Rattle.nesting.proofs.plain_entries.Goals.{in-Native, in_default}

pub returns : goal.returns
returns c =
    let k = c.from.ensures in
    ap (◌&& eqb c.args.validity no_bitmap)
    (elim c.match-matches.branch [
      | in-Native w ↦ w.matches-is ∙ entries-yes _ k w.in-Native.is
      | in_default w ↦ w.matches-is ∙ entries-no _ k w.in_default.not-Native w.in_default.not-Fixed
    ])
