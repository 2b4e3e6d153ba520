-- `words::array_at` meets its contract. Assumes nothing.
use Rattle.std.proofs.Common.{take, drop, ap, ◌∙◌, arith}
use Rattle.format.specs.Bytes.{bytes_at}
use Rattle.words.proofs.array_at.Goals as goal

pub returns : goal.returns
unfolding bytes_at
returns g c = c.copy_from_slice.ensures.after ∙ ap (λ n. take n (drop c.args.at c.args.s.now)) (omega arith)
