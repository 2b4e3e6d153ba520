-- `gather::Column::copy_rows` meets its contract. The entries of consecutive rows are one part of `src`. Assumes nothing.
use Rattle.std.proofs.Common.{◌≡◌, ◌+◌, ◌-◌, ◌*◌, length, sym, ap, ◌∙◌, arith}
use Rattle.format.specs.Slots.{count_up}
use Rattle.format.proofs.Numbers.{length-bytes}
use Rattle.format.proofs.Put.{named}
use Rattle.append.specs.Cells.{entries_of}
use Rattle.append.proofs.CellLaws.{run-bytes, entries-run}
use Rattle.gather.proofs.Column.copy_rows.Goals as goal
use Rattle.gather.proofs.Column.copy_rows.Goals.{Start}

-- the bytes before row a and those of the rows from it on
spans : (c : Start) → c.args.self.width * c.args.a + c.args.self.width * (c.args.e - c.args.a) ≡ c.args.self.width * c.args.e
spans c = run-bytes c.args.self.width _ _ c.requires.0

long : (c : Start) → length (entries_of c.args.self.width c.args.self.src.now c.args.self.first (count_up (c.args.e - c.args.a) c.args.a)) ≡ c.args.self.width * (c.args.e - c.args.a)
long c = ap length (entries-run _ _ _ _ _) ∙ length-bytes _ _ _ (omega (arith, spans c))

pub overflow_mul-width : goal.overflow_mul-width
overflow_mul-width c = omega (arith, spans (goal.at.overflow_mul-width c).Start)

pub overflow_add-first : goal.overflow_add-first
overflow_add-first c = omega (arith, spans (goal.at.overflow_add-first c).Start)

pub overflow_mul-width-2 : goal.overflow_mul-width-2
overflow_mul-width-2 c = omega (arith, long (goal.at.overflow_mul-width-2 c).Start)

pub copy-requires : goal.copy-requires
copy-requires c = omega (arith, spans (goal.at.copy-requires c).Start, long (goal.at.copy-requires c).Start)

pub returns : goal.returns
returns c = named c.copy.ensures (sym (entries-run _ _ _ _ _))
