-- `content::keys::bad_keys_of` meets its contract: bad gathers the keys below i. Assumes nothing.
use Rattle.std.proofs.Common.{refl, ◌∙◌, arith}
use Rattle.content.proofs.Fold.{any-more, any-start}
use Rattle.content.proofs.Tests.{key-left, no-key}
use Rattle.content.proofs.keys.bad_keys_of.Goals as goal

pub returns-then-least-from : goal.returns-then-least-from
returns-then-least-from g c = no-key _ _ _ _ _ (λ i. omega (arith, c.type_inv.s i)) (rw (c.wide-least.ensures, c.low.ensures, c.from.ensures, c.from-2.ensures) at c.if-least-from.true)

pub loop-i-init : goal.loop-i-init
loop-i-init g c = any-start _

pub loop-i-preserved : goal.loop-i-preserved
loop-i-preserved g c =
    any-more _ _ _ c.loop-i.invariant
    (rw (c.wide.ensures, c.low-in-loop-i.ensures)
    (key-left _ g.met.N.Number.width _ _ _ _ _ _ (c.wide-least.ensures ∙ (rw c.from.ensures at c.low.ensures)) (rw c.from-2.ensures at c.if-least-from.false)
    c.nth-key.ensures.value c.nth-key.ensures.fits))
    refl
