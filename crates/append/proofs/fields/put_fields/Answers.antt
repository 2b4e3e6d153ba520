-- `append::fields::put_fields` meets its contract. A turn writes the first of the numbers that are left. Assumes nothing.
use Rattle.std.proofs.Common.{drop_of_length-le, refl, ap, ◌∙◌}
use Rattle.format.specs.Bytes.{to_le}
use Rattle.format.specs.Write.{numbers}
use Rattle.format.proofs.Measure.{length-to_le}
use Rattle.format.proofs.Numbers.{numbers-none}
use Rattle.format.proofs.Put.{whole, less, room, done}
use Rattle.append.proofs.CellLaws.{numbers_more}
use Rattle.append.proofs.fields.put_fields.Goals as goal

pub loop-field-init : goal.loop-field-init
loop-field-init c = whole refl refl

pub put-here-requires : goal.put-here-requires
put-here-requires c = rw (length-to_le 4 _) at (room (to_le 4 _) _ c.loop-field.invariant (numbers_more 4 _ _ c.loop-field-test.true) c.requires)

pub loop-field-preserved : goal.loop-field-preserved
loop-field-preserved c = less c.loop-field.invariant (numbers_more 4 _ _ c.loop-field-test.true) c.put-here.ensures

pub returns : goal.returns
returns c = done c.loop-field.invariant (ap (numbers 4) (drop_of_length-le _ c.loop-field-test.false) ∙ numbers-none 4) refl
