-- `content::keys::bad_valid_keys_of` meets its contract: bad gathers the rows below i. Assumes nothing.
use Rattle.std.proofs.Common.{sym, refl, ◌∙◌}
use Rattle.content.proofs.Fold.{any-more, any-start}
use Rattle.content.proofs.Tests.{none-valid, valid-is}
use Rattle.content.proofs.keys.bad_valid_keys_of.Goals as goal

pub returns-then-not-bad_keys_of : goal.returns-then-not-bad_keys_of
returns-then-not-bad_keys_of g c = sym (none-valid _ _ _ _ _ _ _ (sym c.bad_keys_of.ensures ∙ c.if-not-bad_keys_of.true))

pub loop-i-init : goal.loop-i-init
loop-i-init g c = any-start _

pub loop-i-preserved : goal.loop-i-preserved
loop-i-preserved g c =
    any-more _ _ _ c.loop-i.invariant (rw c.from.ensures (valid-is _ _ _ _ _ _ _ _ c.bit-valid.ensures c.nth-key.ensures.value)) refl
