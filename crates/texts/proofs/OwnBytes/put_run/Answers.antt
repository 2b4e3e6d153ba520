-- `texts::OwnBytes::put_run` meets its contract. The own bytes of consecutive rows are one part of the data. Assumes nothing.
use Rattle.std.proofs.Common.{◌≡◌, ◌*◌, le_refl, arith}
use Rattle.format.proofs.Put.{named}
use Rattle.texts.specs.Texts.{start_in}
use Rattle.texts.proofs.TextLaws.{start-in, start_is, run-order, run_inside, run-texts, run_length}
use Rattle.texts.proofs.OwnBytes.put_run.Goals as goal
use Rattle.texts.proofs.OwnBytes.put_run.Goals.{After-offset, After-offset-2}

low-is : (c : After-offset) → let t = c.args.self.now in t.unit * c.offset.result ≡ start_in t.unit t.width t.src.now t.first c.args.a
low-is c = start_is _ _ _ _ _ c.offset.ensures

high_is : (c : After-offset-2) → let t = c.args.self.now in t.unit * c.offset-2.result ≡ start_in t.unit t.width t.src.now t.first c.args.e
high_is c = start_is _ _ _ _ _ c.offset-2.ensures

pub overflow_mul-low : goal.overflow_mul-low
overflow_mul-low c = let p = c.requires.a_le_e in record { fits = omega (arith, low-is c, start-in _ p.0 p.1) }

pub overflow_mul-high : goal.overflow_mul-high
overflow_mul-high c = let p = c.requires.a_le_e in record { fits = omega (arith, high_is c, start-in _ (le_refl _) p.1) }

pub overflow_sub-high : goal.overflow_sub-high
overflow_sub-high c = let p = c.requires.a_le_e in run-order p.1 p.0 (low-is (goal.at.overflow_sub-high c).After-offset) (high_is (goal.at.overflow_sub-high c).After-offset-2)

pub overflow_add-self : goal.overflow_add-self
overflow_add-self c =
    let p = c.requires.a_le_e in
    record { fits = omega (arith, run_inside p.1 p.0 (low-is (goal.at.overflow_add-self c).After-offset) (high_is (goal.at.overflow_add-self c).After-offset-2)) }

pub copy_short-requires : goal.copy_short-requires
copy_short-requires c =
    let p = c.requires in
    let low = low-is (goal.at.copy_short-requires c).After-offset in
    let high = high_is (goal.at.copy_short-requires c).After-offset-2 in
    (rw (run_length p.a_le_e.1 p.a_le_e.0 low high) at p.a_in_bounds, run_inside p.a_le_e.1 p.a_le_e.0 low high)

pub returns : goal.returns
returns c =
    let p = c.requires.a_le_e in
    named c.copy_short.ensures (run-texts p.1 p.0 (low-is (goal.at.returns c).After-offset) (high_is (goal.at.returns c).After-offset-2))
