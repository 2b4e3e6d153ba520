-- What the loop of `filter_offsets` keeps. Assumes nothing.
use Rattle.texts.specs.Texts.{offset, Offsets}
use Rattle.text_columns.proofs.TextWalk.{Summed}
use Rattle.text_columns.proofs.filter_offsets.Given as goal

abbrev pub invariant-loop-block : goal.invariant-loop-block
invariant-loop-block g l =
    Summed g.N.Number.WIDTH (offset g.N.Number.WIDTH l.journal l.first) (Offsets g.N.Number.WIDTH l.journal l.first) l.sel l.initial.out l.from l.out l.to.next l.to.sum l.block-iterator
