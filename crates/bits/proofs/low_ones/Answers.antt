-- `bits::low_ones` meets its contract. Assumes nothing.
use Prim.Native.Nat.{◌*◌, ◌%◌, ◌^◌}
use mathlib.Core.Path.{◌≡◌, sym, ap}
use native.Mathlib.Omega.{arith}
use borrow.Author.Rules.{rules}
use lib.Pow.{pow_pos}
use Rattle.format.proofs.WordLaws.{one_shl}
use Rattle.bits.proofs.low_ones.Goals as goal
use Rattle.bits.proofs.low_ones.Goals.{Else-n-eq64}

shifted : (c : Else-n-eq64) → 1 * 2 ^ c.args.n % 2 ^ 64 ≡ 2 ^ c.args.n
shifted c = one_shl c.args.n 64 (search rules)

pub returns-then-n-eq64 : goal.returns-then-n-eq64
returns-then-n-eq64 c = ap (2 ^◌) (sym c.if-n-eq64.true)

pub overflow_sub-result : goal.overflow_sub-result
overflow_sub-result c = rw (shifted c) (pow_pos c.args.n)

pub returns : goal.returns
returns c = rw (shifted c) (omega (arith, pow_pos c.args.n))
