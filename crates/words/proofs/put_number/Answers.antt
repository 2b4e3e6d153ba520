-- `words::put_number` meets its contract: each arm is its width, and of a number only the bytes that fit are written. Assumes nothing.
use Rattle.std.proofs.Common.{◌≡◌, ◌∙◌, ap, arith, rules}
use Rattle.format.specs.Bytes.{to_le}
use Rattle.format.proofs.Put.{named}
use Rattle.format.proofs.Numbers.{to_le-mod}
use Rattle.words.proofs.Widths.{last-width}
use Rattle.words.proofs.put_number.Goals as goal

pub put-requires-in_default : goal.put-requires-in_default
put-requires-in_default c =
    let e : c.args.width ≡ 8 = last-width _ c.requires.is_width (search rules) (search rules) (search rules) in
    omega (arith, c.requires.inside)

pub returns-in-1 : goal.returns-in-1
returns-in-1 c = rw c.in-1.is (named c.put.ensures (ap (to_le 1) c.low.ensures ∙ to_le-mod 1 _))

pub returns-in-2 : goal.returns-in-2
returns-in-2 c = rw c.in-2.is (named c.put-in-2.ensures (ap (to_le 2) c.low-in-2.ensures ∙ to_le-mod 2 _))

pub returns-in-4 : goal.returns-in-4
returns-in-4 c = rw c.in-4.is (named c.put-in-4.ensures (ap (to_le 4) c.low-in-4.ensures ∙ to_le-mod 4 _))

pub returns-in_default : goal.returns-in_default
returns-in_default c =
    let e : c.args.width ≡ 8 = last-width _ c.requires.is_width (search rules) (search rules) (search rules) in
    rw e c.put-in_default.ensures
