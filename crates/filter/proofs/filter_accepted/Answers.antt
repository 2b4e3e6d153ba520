-- `filter::filter_accepted` meets its contract: 10, 12, or what is left. Assumes nothing.
use mathlib.Core.Path.{sym, ◌∙◌}
use Rattle.filter.proofs.Ways.{long-mask, not-long, short-list, to-list}
use Rattle.filter.proofs.filter_accepted.Goals as goal

pub returns-then-rows-mask : goal.returns-then-rows-mask
returns-then-rows-mask c = rw c.new.ensures (long-mask c.args.mask.counted c.requires c.rows.ensures c.if-rows-mask.true)

pub returns-then-list_short : goal.returns-then-list_short
returns-then-list_short c =
    let k = c.args.mask.counted in
    rw c.new-then-list_short.ensures (short-list k c.requires (not-long k c.requires c.rows.ensures c.if-rows-mask.false) (sym c.list_short.ensures ∙ c.if-list_short.true))

pub filter_listed-requires : goal.filter_listed-requires
filter_listed-requires c = to-list c.requires (not-long c.args.mask.counted c.requires c.rows.ensures c.if-rows-mask.false) (sym c.list_short.ensures ∙ c.if-list_short.false)
