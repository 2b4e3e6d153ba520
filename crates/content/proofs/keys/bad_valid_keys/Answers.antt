-- `content::keys::bad_valid_keys` meets its contract: each arm is its width. Assumes nothing.
use Rattle.std.proofs.Common.{◌∙◌, arith}
use Rattle.words.proofs.Widths.{last-width}
use Rattle.content.proofs.keys.bad_valid_keys.Goals as goal

pub bad_valid_keys_of-requires-in_default-clause-keys : goal.bad_valid_keys_of-requires-in_default-clause-keys
bad_valid_keys_of-requires-in_default-clause-keys c = rw (last-width _ c.requires.w_value.0 (λ e. omega arith) (λ e. omega arith) (λ e. omega arith)) at c.requires.w_value.1

pub returns-in_default : goal.returns-in_default
returns-in_default c = c.bad_valid_keys_of-in_default.ensures ∙ rw (last-width _ c.requires.w_value.0 (λ e. omega arith) (λ e. omega arith) (λ e. omega arith))
