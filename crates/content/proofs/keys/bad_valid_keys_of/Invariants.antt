-- What the loop of `keys::bad_valid_keys_of` keeps. Assumes nothing.
use Rattle.std.proofs.Common.{◌≡◌}
use Rattle.format.specs.Bytes.{any_below}
use Rattle.content.specs.Numbers.{bad_valid_key}
use Rattle.content.proofs.keys.bad_valid_keys_of.Given as goal

abbrev pub invariant-loop-i : goal.invariant-loop-i
invariant-loop-i g l = l.bad ≡ any_below (bad_valid_key g.N.Number.WIDTH l.s l.at l.limit l.bits l.k) l.i
