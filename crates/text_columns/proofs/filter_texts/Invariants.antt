-- What the loop of `filter_texts` keeps. Assumes nothing.
use Rattle.text_columns.proofs.TextWalk.{Walked}
use Rattle.text_columns.proofs.filter_texts.Given as goal

abbrev pub invariant-loop-block : goal.invariant-loop-block
invariant-loop-block l = Walked l.own l.sel l.initial.out l.at l.out l.here l.block-iterator
