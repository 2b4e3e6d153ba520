-- `report::put_refused` meets its contract: four writes are one line. Assumes nothing.
use Rattle.format.proofs.Put.{then, named}
use Rattle.report.proofs.Lines.{refused-line}
use Rattle.report.proofs.put_refused.Goals as goal

pub returns-clause-wrote : goal.returns-clause-wrote
returns-clause-wrote c =
    let number = then c.put_count-next.ensures.wrote c.put_text-next.ensures in
    named (then (then number c.put_pack-end.ensures.wrote) c.put_text.ensures) (rw c.from.ensures (refused-line c.args.refused))
