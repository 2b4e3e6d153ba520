-- `nodes::filter_second` meets its contract: data, sizes, or nothing. Assumes nothing.
use mathlib.Core.Path.{refl, sym, ap, ◌∙◌}
use Rattle.format.specs.declared.Kind.{Kind}
use Rattle.format.specs.Kept.{cells}
use Rattle.format.specs.Write.{second}
use Rattle.nodes.specs.Place.{bytes32, bytes64, sizes32, sizes64}
use Rattle.buffers.proofs.PutLaws.{puts_none}
use Rattle.nodes.proofs.BufferLaws.{b, i, rs, second-absent}
use Rattle.nodes.proofs.filter_second.Goals as goal

pub second_texts-requires-clause-column : goal.second_texts-requires-clause-column
second_texts-requires-clause-column c = rw (sym c.kind.ensures ∙ c.in-Bytes32.is) bytes32

pub second_texts-requires-in-Bytes64-clause-column : goal.second_texts-requires-in-Bytes64-clause-column
second_texts-requires-in-Bytes64-clause-column c = rw (sym c.kind.ensures ∙ c.in-Bytes64.is) bytes64

pub second_sizes-requires-clause-sizes : goal.second_sizes-requires-clause-sizes
second_sizes-requires-clause-sizes c = rw (sym c.kind.ensures ∙ c.in-Lists32.is) sizes32

pub second_sizes-requires-in-Lists64-clause-sizes : goal.second_sizes-requires-in-Lists64-clause-sizes
second_sizes-requires-in-Lists64-clause-sizes c = rw (sym c.kind.ensures ∙ c.in-Lists64.is) sizes64

pub returns-in_default : goal.returns-in_default
returns-in_default c =
    let p = c.args.picked in
    let d = c.in_default in
    puts_none (ap (λ (k : Kind). second (cells k (b p) (i p) (rs p))) (sym c.kind.ensures) ∙ second-absent (b p) (i p) (rs p) c.kind.result d.not-Bytes32 d.not-Bytes64 d.not-Lists32 d.not-Lists64) refl
