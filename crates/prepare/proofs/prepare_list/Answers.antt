-- `prepare::prepare_list` meets its contract: no list is asked for, it is short, or the route's entries are stored. Assumes nothing.
use mathlib.Core.Path.{ap, ◌∙◌}
use native.Mathlib.Omega.{arith}
use borrow.Author.Tests.{not-true, not-false}
use lib.ListN.{length}
use Rattle.prepare.proofs.Slips.{few-slots, entries-are, ready, unasked, short, filled}
use Rattle.prepare.proofs.prepare_list.Goals as goal

pub returns-then-not-asked : goal.returns-then-not-asked
returns-then-not-asked c = let m = c.args.mask in unasked _ _ _ (not-true _ c.if-not-asked.true-raw) (ready m.counted m.goes)

pub returns-then-list-list_entries : goal.returns-then-list-list_entries
returns-then-list-list_entries c = rw c.new.ensures (short _ _ _ (not-false _ c.if-not-asked.false-raw) (rw (← c.list_entries.ensures) c.if-list-list_entries.true))

pub store_list-requires : goal.store_list-requires
store_list-requires c =
    let m = c.args.mask in
    (omega (arith, few-slots m.counted), omega (arith, ap length (entries-are m.counted m.goes), c.list_entries.ensures, c.if-list-list_entries.false))

pub returns : goal.returns
returns c =
    let m = c.args.mask in
    filled _ _ _ (not-false _ c.if-not-asked.false-raw) (rw (← c.list_entries.ensures) c.if-list-list_entries.false) (rw (entries-are m.counted m.goes) at c.store_list.ensures) (ready m.counted m.goes)
