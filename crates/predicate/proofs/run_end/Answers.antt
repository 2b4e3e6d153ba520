-- `predicate::run_end` meets its contract: words of ones, and the ones below the lowest zero of the word after them. Assumes nothing.
use Rattle.std.proofs.Common.{◌-◌, ◌≤◌, arith}
use lib.Count.{count_trailing_zeros, trailing_le}
use Rattle.format.proofs.SlotLaws.{all_join}
use Rattle.predicate.proofs.WordRuns.{ones_low}
use Rattle.predicate.proofs.run_end.Goals as goal
use Rattle.predicate.proofs.run_end.Goals.{After-word_in}

-- the lowest zero lies in the word, or just after it
near : (c : After-word_in) → count_trailing_zeros 64 (0xFFFF_FFFF_FFFF_FFFF - c.word_in.result) ≤ 64
near c = trailing_le 64 (0xFFFF_FFFF_FFFF_FFFF - c.word_in.result)

pub returns : goal.returns
returns c =
    let ones = c.ones_end-w.ensures in
    let low = ones.low in
    let n = near c in
    record { low = omega arith; high = omega arith; all = all_join ones.all (ones_low _ _ c.word_in.ensures) }

pub returns-then-len-w : goal.returns-then-len-w
returns-then-len-w c = let f = c.ones_end-w.ensures in let low = f.low in let high = f.high in record { low = omega arith; high = omega arith; all = f.all }

pub overflow_cast-result : goal.overflow_cast-result
overflow_cast-result c = omega (arith, near c)

pub overflow_add-result : goal.overflow_add-result
overflow_add-result c = omega (arith, near c)
