-- `body::put_listed` meets its contract: the list's rows are told, and its node by them. Assumes nothing.
use native.Mathlib.Omega.{arith}
use Rattle.nesting.proofs.Direct.{list-unmarked, entries-unmarked}
use Rattle.body.proofs.Listed.{flat-of, list-not, handed-on}
use Rattle.body.proofs.put_listed.Goals as goal

pub rows_of-requires : goal.rows_of-requires
rows_of-requires c = let q = c.requires.i_bound in (omega (arith, q.0), list-not _ _ q.1)

pub put_values-requires : goal.put_values-requires
put_values-requires c =
    let q = c.requires.i_bound in
    record { nests = (c.offset_width.ensures, list-unmarked _ _ q.1); flat = (flat-of _ _ q.1, entries-unmarked _ _ q.1); room = rw (handed-on c.rows_of.ensures c.args.regions.now.counted.ready.sound (omega (arith, q.0)) _ c.offset_width.ensures) c.requires.room }

pub returns : goal.returns
returns c =
    let q = c.requires.i_bound in
    rw (handed-on c.rows_of.ensures c.args.regions.now.counted.ready.sound (omega (arith, q.0)) _ c.offset_width.ensures) at c.put_values.ensures
