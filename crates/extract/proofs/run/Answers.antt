-- An extract lies in the output. Assumes nothing.
use Rattle.std.proofs.Common.{arith, sym, ◌∙◌, length-take-le}
use Rattle.extract.proofs.Fits.{done-fits}
use Rattle.extract.proofs.run.Goals as goal

pub slice_bounds-output-end : goal.slice_bounds-output-end
slice_bounds-output-end g c = omega (arith, done-fits _ _ (sym c.filter-answer.ensures.answered ∙ c.in-Ok.is), c.filter-answer.auto.output)

pub slice_bounds-write-end-in-Ok : goal.slice_bounds-write-end-in-Ok
slice_bounds-write-end-in-Ok g c = sym (length-take-le _ _ (omega (arith, done-fits _ _ (sym c.filter-answer.ensures.answered ∙ c.in-Ok.is), c.filter-answer.auto.output)))
