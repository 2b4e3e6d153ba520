-- `regions::Regions::rows_of` meets its contract: a bitmap's picked slots are the rows. Assumes nothing.
use mathlib.Core.Path.{sym, ◌∙◌}
use native.Mathlib.Omega.{arith}
use Rattle.format.proofs.SlotLaws.{chosen-picks}
use Rattle.regions.proofs.Regions.rows_of.Goals as goal

pub returns-in-Bitmap : goal.returns-in-Bitmap
returns-in-Bitmap c = record { sourced = tt; kept = sym (chosen-picks _ _) ∙ c.in-Bitmap.ensures.0; short = omega (arith, c.in-Bitmap.ensures.1) }
