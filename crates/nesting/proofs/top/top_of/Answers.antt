-- `nesting::top::top_of` meets its contract. The loop's invariant: node i keeps the node's rows. Assumes nothing.
use mathlib.Core.Path.{sym, ◌∙◌}
use Rattle.nesting.proofs.Handed.{shares-yes, shares-no}
use Rattle.nesting.proofs.Levels.{to-parent}
use Rattle.nesting.proofs.top.top_of.Goals as goal

pub loop-i-preserved : goal.loop-i-preserved
loop-i-preserved c =
    rw c.parent-i.ensures
    (to-parent c.args.journal.now.sound c.loop-i.invariant c.loop-i-test.true (shares-yes _ (rw (c.kind.ensures, c.parent.ensures) at (sym c.shares.ensures ∙ c.if-shares.true))))

pub returns-else-shares : goal.returns-else-shares
returns-else-shares c =
    record { level = c.loop-i.invariant; last = λ some. shares-no (rw (c.kind.ensures, c.parent.ensures) at (sym c.shares.ensures ∙ c.if-shares.false)) }
