-- `bitmaps::filter_bits` meets its contract: the source that compress takes picks the selection's rows. Assumes nothing.
use Rattle.std.proofs.Common.{◌≡◌, arith}
use Rattle.predicate.specs.Entries.{picked}
use Rattle.predicate.specs.Selection.{selected, reach}
use Rattle.bitmaps.proofs.BlockWalk.{by-compress}
use Rattle.bitmaps.proofs.filter_bits.Goals as goal
use Rattle.bitmaps.proofs.filter_bits.Goals.{In-Some}

same : (c : In-Some) → (picked c.in-Some.source ≡ selected c.args.sel) × (c.in-Some.source.bits.len ≡ reach c.args.sel)
same c = by-compress _ _ _ (rw c.in-Some.is at c.compressed.ensures)

pub filter_bits_compress-requires : goal.filter_bits_compress-requires
filter_bits_compress-requires c =
    let s = same (goal.at.filter_bits_compress-requires c).In-Some in
    record { len_bound = omega (arith, s.1, c.requires.len_bound); len_in_bounds = rw s.0 c.requires.len_in_bounds }

pub returns-in-Some : goal.returns-in-Some
returns-in-Some c = rw (← (same (goal.at.returns-in-Some c).In-Some).0) c.filter_bits_compress.ensures
