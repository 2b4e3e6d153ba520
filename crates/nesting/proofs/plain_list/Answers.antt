-- `nesting::plain_list` meets its contract. Assumes nothing.
use mathlib.Core.Bool.{◌&&◌}
use mathlib.Core.Path.{ap, ◌∙◌}
use lib.Dec.{eqb}
use Rattle.format.specs.Node.{no_bitmap}
use Rattle.nesting.proofs.Handed.{list-yes, list-no}
use Rattle.nesting.proofs.plain_list.Goals as goal
use Rattle.nesting.proofs.plain_list.Goals.{in-Nested32, in_default}

pub returns : goal.returns
returns c =
    let k = c.from.ensures in
    ap (◌&& eqb c.args.validity no_bitmap)
    (elim c.match-matches.branch [
      | in-Nested32 w ↦ w.matches-is ∙ list-yes _ k w.in-Nested32.is
      | in_default w ↦ w.matches-is ∙ list-no _ k w.in_default.not-Nested32 w.in_default.not-Nested64
    ])
