-- `filter::filter` meets its contract: the mask's own slip, or the answer of an accepted one. Assumes nothing.
use Rattle.std.proofs.lemmas.Result.{err_from_is_err_and}
use Rattle.format.proofs.Reasons.{own_answer-ok}
use Rattle.filter.proofs.Ways.{mask-bad}
use Rattle.filter.proofs.filter.Goals as goal

pub returns-in_err-accept_mask : goal.returns-in_err-accept_mask
returns-in_err-accept_mask c =
    let p = err_from_is_err_and c.from_residual.result c.from_residual.ensures.1 in
    rw (p.1, p.2) (mask-bad _ c.in_err-accept_mask.ensures)

pub filter_masked-requires : goal.filter_masked-requires
filter_masked-requires c = own_answer-ok _ _ c.in_ok-accept_mask.ensures
