-- `report::put_done` meets its contract: six writes are one line. Assumes nothing.
use Rattle.format.proofs.Put.{then, named}
use Rattle.report.proofs.Lines.{done-line}
use Rattle.report.proofs.put_done.Goals as goal

pub returns-clause-wrote : goal.returns-clause-wrote
returns-clause-wrote c =
    let rows = then c.put_count-next.ensures.wrote c.put_count-next-2.ensures.wrote in
    let way = then (then rows c.put_text-next.ensures) c.put_route-next.ensures.wrote in
    named (then (then way c.put_count-next-3.ensures.wrote) c.put_text.ensures) (done-line c.args.done)
