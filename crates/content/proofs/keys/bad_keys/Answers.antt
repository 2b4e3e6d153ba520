-- `content::keys::bad_keys` meets its contract: each arm is its width. Assumes nothing.
use Rattle.std.proofs.Common.{◌∙◌, arith}
use Rattle.words.proofs.Widths.{last-width}
use Rattle.content.proofs.keys.bad_keys.Goals as goal

pub bad_keys_of-requires-in_default : goal.bad_keys_of-requires-in_default
bad_keys_of-requires-in_default c = rw (last-width _ c.requires.0 (λ e. omega arith) (λ e. omega arith) (λ e. omega arith)) at c.requires.1

pub returns-in_default : goal.returns-in_default
returns-in_default c = c.bad_keys_of-in_default.ensures ∙ rw (last-width _ c.requires.0 (λ e. omega arith) (λ e. omega arith) (λ e. omega arith))
