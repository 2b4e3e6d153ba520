-- `capi::filter` meets its contract: the very promise of `entries::filter`. Assumes nothing.
use borrow.Author.Rules.{rules}
use Rattle.capi.proofs.filter.Goals as goal

pub returns : goal.returns
returns c = c.filter.ensures
