-- `filter::filter_masked` meets its contract: 11, the journal's own slip, or what is left. Assumes nothing.
use Prim.Native.Nat.{ℕ}
use mathlib.Core.List.{List}
use mathlib.Core.Path.{◌≡◌, sym, ap, ◌∙◌}
use denote.Ref.{Bor}
use Rattle.std.proofs.lemmas.Result.{err_from_is_err_and}
use Rattle.format.specs.Mask.{count}
use Rattle.format.proofs.Accepted.{sound}
use Rattle.format.proofs.Reasons.{own_answer-ok}
use Rattle.filter.proofs.Ways.{right-unstated, restated, miscounted, journal-bad}
use Rattle.filter.proofs.filter_masked.Goals as goal
use Rattle.filter.proofs.filter_masked.Goals.{After-new-accepted}

-- what was counted is the mask's count
counts : (c : After-new-accepted) → c.new-accepted.result.kept ≡ count c.args.mask.now
counts c = c.new-accepted.result.counted.counted ∙ ap (λ (q : Bor (List ℕ)). count q.now) c.new-accepted.ensures

pub returns-then-wrong_count : goal.returns-then-wrong_count
returns-then-wrong_count c =
    rw c.new.ensures (miscounted _ c.requires (rw (← counts (goal.at.returns-then-wrong_count c).After-new-accepted) (sym c.wrong_count.ensures ∙ c.if-wrong_count.true)))

pub returns-in_err-accept_journal : goal.returns-in_err-accept_journal
returns-in_err-accept_journal c =
    let p = err_from_is_err_and c.from_residual.result c.from_residual.ensures.1 in
    rw (p.1, p.2)
    (journal-bad _ c.requires (rw (← counts (goal.at.returns-in_err-accept_journal c).After-new-accepted) (sym c.wrong_count.ensures ∙ c.if-wrong_count.false)) c.in_err-accept_journal.ensures)

pub new-sound-requires : goal.new-sound-requires
new-sound-requires c = sound _ (own_answer-ok _ _ c.in_ok-accept_journal.ensures)

pub filter_accepted-requires : goal.filter_accepted-requires
filter_accepted-requires c = record { right = right-unstated _; journal = rw c.new-sound.ensures (own_answer-ok _ _ c.in_ok-accept_journal.ensures) }

pub returns : goal.returns
returns c =
    restated _ _ _ _ _ _ _ (rw (← counts (goal.at.returns c).After-new-accepted) (sym c.wrong_count.ensures ∙ c.if-wrong_count.false))
    (rw (c.new-accepted.ensures, c.new-sound.ensures) at c.filter_accepted.ensures)
