-- `prepare::Mask::new` meets its contract: what was counted is the mask's count. Assumes nothing.
use mathlib.Core.Path.{◌∙◌}
use Rattle.slots.proofs.Masked.{mask-lies, mask-count}
use Rattle.prepare.specs.Prepare.{Counted}
use Rattle.prepare.proofs.Slips.{few-slots, few-kept}
use Rattle.prepare.proofs.Mask.new.Goals as goal
use Rattle.prepare.proofs.Mask.new.Goals.{After-count-kept}

pub invariant_of-source : goal.invariant_of-source
invariant_of-source c = record { lies = rw c.mask_bits-bits.ensures (mask-lies _ c.requires) }

counts : (c : After-count-kept) → Counted c.args.bytes.now c.mask_bits-bits.result c.count-kept.result
counts c =
    let is = c.mask_bits-bits.ensures in
    record { accepted = c.requires; bits = is; counted = c.count-kept.ensures ∙ rw is (mask-count _) }

pub default_strategy-route-requires : goal.default_strategy-route-requires
default_strategy-route-requires c = let k = counts (goal.at.default_strategy-route-requires c).After-count-kept in (few-slots k, few-kept k)

pub invariant_of-result : goal.invariant_of-result
invariant_of-result c = record { counted = counts (goal.at.invariant_of-result c).After-count-kept; goes = c.default_strategy-route.ensures }
