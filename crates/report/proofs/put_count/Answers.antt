-- `report::put_count` meets its contract: two writes are one. Assumes nothing.
use Rattle.std.proofs.Common.{arith}
use Rattle.format.proofs.Put.{then, same_size}
use Rattle.report.proofs.Decimal.{size-most}
use Rattle.report.proofs.put_count.Goals as goal

pub put_decimal-requires : goal.put_decimal-requires
put_decimal-requires c = omega (arith, size-most c.args.x (omega arith), same_size c.put_text-next.ensures)

pub returns-clause-wrote : goal.returns-clause-wrote
returns-clause-wrote c = then c.put_text-next.ensures c.put_decimal.ensures

pub returns-clause-upper_bound : goal.returns-clause-upper_bound
returns-clause-upper_bound c = omega (arith, size-most c.args.x (omega arith))
