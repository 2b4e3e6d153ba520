-- `slots::Source::slots57_in` meets its contract: the bits that one word has, and no slot is cut. Assumes nothing.
use Prim.Native.Nat.{ℕ, ◌+◌, ◌*◌, ◌-◌, ◌%◌}
use mathlib.Core.Path.{◌≡◌, ◌∙◌}
use native.Mathlib.Omega.{arith}
use Rattle.std.proofs.Common.{rules, of_calls}
use Rattle.slots.proofs.Reading.{read-word, word-full}
use Rattle.slots.proofs.Source.slots57_in.Goals as goal

-- whole bytes before a bit do not move it within its byte
same_bit : (at k : ℕ) → (8 * at + k) % 8 ≡ k % 8
same_bit at k = omega arith

pub returns : goal.returns
returns c =
    let h = c.both.ensures in
    let s = c.args.self in
    let k = s.bits.skip + c.args.i in
    let n = 64 - k % 8 in
    read-word s.bytes.now s.bits n c.args.i _ (rw (← same_bit s.bits.values_at k) (search (rules, of_calls))) h.2
    (λ at q. (q.0, rw (← same_bit at k) (search (rules, of_calls)), q.2))
    ∙ word-full s.bytes.now s.bits n c.args.i (omega arith)
