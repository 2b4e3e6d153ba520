-- `content::views::bad_view` meets its contract. Assumes nothing.
use Rattle.std.proofs.Common.{arith}
use Rattle.content.proofs.ViewLaws.{view-long, view-short}
use Rattle.content.proofs.views.bad_view.Goals as goal

pub returns-then-len-gt12 : goal.returns-then-len-gt12
returns-then-len-gt12 c =
    let a = c.args in
    view-long _ a.kids a.buffers a.here _ c.get-len.ensures.value c.if-len-gt12.true _ c.bad_long.ensures

pub returns-else-len-gt12 : goal.returns-else-len-gt12
returns-else-len-gt12 c =
    let a = c.args in
    view-short _ a.kids a.buffers a.here _ c.get-len.ensures.value (omega arith) _ c.bad_unused.ensures
