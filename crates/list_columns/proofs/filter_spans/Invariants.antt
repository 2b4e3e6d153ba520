-- What the loop of `filter_spans` keeps. Assumes nothing.
use Rattle.list_columns.specs.Lists.{Have, starts}
use Rattle.text_columns.proofs.TextWalk.{Summed}
use Rattle.list_columns.proofs.filter_spans.Given as goal

abbrev pub invariant-loop-block : goal.invariant-loop-block
invariant-loop-block g l =
    Summed g.N.Number.WIDTH (starts g.N.Number.WIDTH l.lists) (Have g.N.Number.WIDTH l.lists) l.sel l.initial.out l.start l.out l.to.next l.to.sum l.block-iterator
