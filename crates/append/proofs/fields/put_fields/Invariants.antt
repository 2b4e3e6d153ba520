-- What the loop of `fields::put_fields` keeps: the numbers from the index on are still to be written. Assumes nothing.
use Rattle.std.proofs.Common.{drop}
use Rattle.format.specs.Write.{numbers}
use Rattle.format.proofs.Put.{Left}
use Rattle.append.proofs.fields.put_fields.Given as goal

abbrev pub invariant-loop-field : goal.invariant-loop-field
invariant-loop-field l = Left l.initial.out l.at (numbers 4 l.fs) l.out l.here (numbers 4 (drop l.field-index l.fs))
