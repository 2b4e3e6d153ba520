-- `content::views::bad_views` meets its contract: the first wrong view is an answer, and none is the other. Assumes nothing.
use Rattle.std.proofs.Common.{◌+◌, ◌*◌, ◌∙◌, refl, rules, tests, arith}
use Rattle.std.proofs.lemmas.Iterator.{YieldsList-from_range}
use Rattle.std.proofs.lemmas.Iterator.Search.{any_from_yields_List}
use Rattle.content.specs.Numbers.{bad_view_at}
use Rattle.content.proofs.Fold.{any-range}
use Rattle.content.proofs.views.bad_views.Goals as goal

pub returns : goal.returns
returns c =
    let a = c.args in
    any_from_yields_List (λ r. bad_view_at a.s.now a.kids a.buffers (a.at + 16 * r)) _ _ _ c.any.ensures.ran (YieldsList-from_range 0 a.n a.n refl (omega arith))
    (λ x b q k. search (rules, tests))
    ∙ any-range _ a.n
