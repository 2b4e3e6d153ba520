-- `slices::count_runs` meets its contract: as many as the iterator gives, and no more than slots. Assumes nothing.
use Rattle.std.proofs.Common.{◌-◌, length, ap, ◌∙◌, arith}
use mathlib.Core.Logic.{inl}
use native.Mathlib.Nat.{sub-zero}
use Rattle.std.proofs.lemmas.Iterator.Consumers.{count_from_yields_List}
use Rattle.slots.specs.Slot.{slot_in}
use Rattle.slices.specs.declared.SlicesIterator.{SlicesIterator}
use Rattle.slices.specs.Reader.{runs_left}
use Rattle.slices.proofs.Yields.{few, runs-given}
use Rattle.slices.proofs.count_runs.Goals as goal

pub count-requires-clause-fits : goal.count-requires-clause-fits
count-requires-clause-fits c =
    let s = c.args.source in
    inl (rw c.new.ensures (omega (arith, few (slot_in s) (s.bits.len - 0) 0, s.lies.values, s.lies.small)))

pub returns : goal.returns
returns c =
    let i = c.new.result in
    count_from_yields_List i _ c.count.ensures.ran (runs-given i) ∙ ap (λ (i : SlicesIterator). length (runs_left i)) c.new.ensures ∙ rw sub-zero
