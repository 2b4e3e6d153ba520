-- `nesting::lists::List::start` meets its contract. Assumes nothing.
use native.Mathlib.Omega.{arith}
use Rattle.words.proofs.Widths.{wider}
use Rattle.nesting.proofs.ListAt.{list-wide, pack-few, start-lies, start-read}
use Rattle.nesting.proofs.lists.List.start.Goals as goal

pub overflow_mul-self : goal.overflow_mul-self
overflow_mul-self c = let l = c.args.self in omega (arith, start-lies l.at l.begins c.args.r c.requires, pack-few l.at)

pub overflow_add-self : goal.overflow_add-self
overflow_add-self c = let l = c.args.self in omega (arith, start-lies l.at l.begins c.args.r c.requires, pack-few l.at)

pub read_number-requires : goal.read_number-requires
read_number-requires c = let l = c.args.self in record { is_width = wider _ (list-wide l.at); inside = start-lies l.at l.begins c.args.r c.requires }

pub returns : goal.returns
returns c = let l = c.args.self in start-read l.at l.begins c.args.r c.read_number.ensures
