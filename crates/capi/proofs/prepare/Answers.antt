-- `capi::prepare` meets its contract: the very promise of `entries::prepare`. Assumes nothing.
use borrow.Author.Rules.{rules}
use Rattle.capi.proofs.prepare.Goals as goal

pub returns : goal.returns
returns c = c.prepare.ensures
