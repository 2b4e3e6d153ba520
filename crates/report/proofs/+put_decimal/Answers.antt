-- `report::put_decimal` meets its contract. Assumes nothing.
use Rattle.std.proofs.Common.{arith}
use Rattle.format.proofs.Put.{same_size}
use Rattle.report.proofs.Decimal.{wrote-short, wrote-long, size-short, size-long}
use Rattle.report.proofs.+put_decimal.Goals as goal

pub bounds-out-at : goal.bounds-out-at
bounds-out-at t c = omega (arith, size-short c.args.x c.if-x-lt10.true)

pub returns-then-x-lt10 : goal.returns-then-x-lt10
returns-then-x-lt10 t c = wrote-short c.if-x-lt10.true

pub put_decimal-last-requires : goal.put_decimal-last-requires
put_decimal-last-requires t c = (omega (arith, c.decreases), omega (arith, size-long c.args.x (omega arith) (omega arith)))

pub bounds-out-last : goal.bounds-out-last
bounds-out-last t c = omega (arith, size-long c.args.x (omega arith) (omega arith), same_size c.put_decimal-last.ensures)

pub overflow_add-result-2 : goal.overflow_add-result-2
overflow_add-result-2 t c = record { fits = omega (arith, size-long c.args.x (omega arith) (omega arith), same_size c.put_decimal-last.ensures) }

pub returns : goal.returns
returns t c = wrote-long (omega arith) (omega arith) c.put_decimal-last.ensures
