-- `null_at_root` meets its contract. Assumes nothing.
use Rattle.std.proofs.Common.{rules, tests, refl, ◌∙◌, arith}
use Rattle.std.proofs.lemmas.Iterator.{YieldsList-from_range}
use Rattle.std.proofs.lemmas.Iterator.Search.{any_from_yields_List}
use Rattle.slots.specs.Slot.{slot_in}
use Rattle.slots.proofs.Reading.{slot-past}
use Rattle.kept_data.proofs.Rooted.{differs, any-lost}
use Rattle.kept_data.proofs.root.null_at_root.Goals as goal

pub returns : goal.returns
returns c =
    let n = c.div_ceil.result in
    any_from_yields_List (differs (slot_in c.args.source) c.args.bytes.now c.args.first) _ _ _ c.any.ensures.ran (YieldsList-from_range 0 n n refl (omega arith)) (λ x r q k. search (rules, tests))
    ∙ any-lost (slot_in c.args.source) c.args.bytes.now c.args.first n (λ j h. slot-past _ _ j h) (omega arith)
