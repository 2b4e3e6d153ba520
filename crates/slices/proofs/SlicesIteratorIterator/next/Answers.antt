-- `SlicesIterator::next` meets its contract: by the run that the scan found. Assumes nothing.
use Rattle.std.proofs.Common.{◌≡◌, rules}
use Rattle.slices.specs.declared.SlicesIterator.{SlicesIterator}
use Rattle.slices.specs.Reader.{advanced}
use Rattle.slices.proofs.Yields.{goes}
use Rattle.slices.proofs.SlicesIteratorIterator.next.Goals as goal

pub returns-clause-goes : goal.returns-clause-goes
returns-clause-goes c =
    let i = c.args.self.now in
    let t : SlicesIterator = record { mask = i.mask; bits = i.bits; at = c.map_or-self.result } in
    let moved : t ≡ advanced i = search rules in
    goes i t c.next_run-run.result c.requires (c.next_run-run.ensures, moved)
