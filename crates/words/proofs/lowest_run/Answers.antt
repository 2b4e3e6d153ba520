-- `words::lowest_run` meets its contract: a carry takes the lowest run off. Assumes nothing.
use Rattle.std.proofs.Common.{arith, rules}
use Rattle.words.proofs.Carry.{run-below}
use Rattle.words.proofs.Turns.{run}
use Rattle.words.proofs.lowest_run.Goals as goal

pub overflow_add-result : goal.overflow_add-result
overflow_add-result c =
    let low = run c.args.base c.args.word c.requires.set (search rules) in
    record { fits = omega (arith, low.filled, run-below low c.requires.fits) }

pub overflow_add-result-2 : goal.overflow_add-result-2
overflow_add-result-2 c =
    let low = run c.args.base c.args.word c.requires.set (search rules) in
    record { fits = omega (arith, run-below low c.requires.fits) }

pub returns : goal.returns
returns c = run c.args.base c.args.word c.requires.set (search rules)
