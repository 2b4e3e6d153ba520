-- `pack::read::u32_at` meets its contract: `le 4` unfolds to the sum of four bytes, each 0 past the end. Assumes nothing.
use Rattle.std.proofs.Common.{rules, ◌≡◌, ℕ, ◌+◌, ◌*◌, List, get_or}
use native.Mathlib.Omega.{arith}
use Rattle.format.specs.Bytes.{le, sum_below}
use Rattle.pack.proofs.read.u32_at.Goals as goal

four : (s : List ℕ) (at : ℕ) {a b c d r : ℕ} → a ≡ get_or s (at + 0) 0 → b ≡ get_or s (at + 1) 0 → c ≡ get_or s (at + 2) 0 → d ≡ get_or s (at + 3) 0
    → r ≡ a + b * 256 + c * 65536 + d * 16777216 → r ≡ le 4 s at
unfolding le sum_below
four s at e f g h i = omega arith

pub returns : goal.returns
returns c = four c.args.s.now c.args.at (search rules) (search rules) (search rules) (search rules) c.from_le_bytes.ensures
