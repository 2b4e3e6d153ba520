-- `words::read_number` meets its contract: each arm is its width. Assumes nothing.
use Rattle.std.proofs.Common.{◌≡◌, ◌∙◌, arith, rules}
use Rattle.words.proofs.Widths.{last-width}
use Rattle.words.proofs.read_number.Goals as goal

pub get-requires-in_default : goal.get-requires-in_default
get-requires-in_default c =
    let e : c.args.width ≡ 8 = last-width _ c.requires.is_width (search rules) (search rules) (search rules) in
    omega (arith, c.requires.inside)

pub returns-in_default : goal.returns-in_default
returns-in_default c =
    let e : c.args.width ≡ 8 = last-width _ c.requires.is_width (search rules) (search rules) (search rules) in
    c.get-in_default.ensures.value ∙ rw e
