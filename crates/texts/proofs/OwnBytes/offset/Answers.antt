-- `texts::OwnBytes::offset` meets its contract: a width that is not 4 is 8. Assumes nothing.
use Rattle.std.proofs.Common.{◌≡◌, ⊎_elim}
use Rattle.texts.specs.Texts.{offset}
use Rattle.texts.proofs.OwnBytes.offset.Goals as goal
use Rattle.texts.proofs.OwnBytes.offset.Goals.{Else-self-eq4}

pub returns-then-self-eq4 : goal.returns-then-self-eq4
unfolding offset
returns-then-self-eq4 c = rw c.if-self-eq4.true c.get.ensures.value

wide : (c : Else-self-eq4) → c.args.self.now.width ≡ 8
wide c = ⊎_elim (λ e. absurd (c.if-self-eq4.false e)) (λ e. e) c.requires.fact

pub returns : goal.returns
unfolding offset
returns c = rw (wide (goal.at.returns c).Else-self-eq4) c.get-2.ensures.value
