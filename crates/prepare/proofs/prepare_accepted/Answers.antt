-- `prepare::prepare_accepted` meets its contract: 11, or what is left. Assumes nothing.
use Prim.Native.Nat.{ℕ}
use mathlib.Core.List.{List}
use mathlib.Core.Path.{◌≡◌, sym, ap, ◌∙◌}
use denote.Ref.{Bor}
use Rattle.format.specs.Mask.{count}
use Rattle.prepare.proofs.Slips.{listed, miscounted}
use Rattle.prepare.proofs.prepare_accepted.Goals as goal
use Rattle.prepare.proofs.prepare_accepted.Goals.{After-new-accepted}

-- what was counted is the mask's count
counts : (c : After-new-accepted) → c.new-accepted.result.kept ≡ count c.args.mask.now
counts c = c.new-accepted.result.counted.counted ∙ ap (λ (q : Bor (List ℕ)). count q.now) c.new-accepted.ensures

pub returns-then-wrong_count : goal.returns-then-wrong_count
returns-then-wrong_count c =
    rw c.new.ensures (miscounted _ _ _ _ c.requires (rw (← counts (goal.at.returns-then-wrong_count c).After-new-accepted) (sym c.wrong_count.ensures ∙ c.if-wrong_count.true)))

pub returns : goal.returns
returns c =
    listed _ _ _ _ c.requires (rw (← counts (goal.at.returns c).After-new-accepted) (sym c.wrong_count.ensures ∙ c.if-wrong_count.false)) (rw c.new-accepted.ensures at c.prepare_list.ensures)
