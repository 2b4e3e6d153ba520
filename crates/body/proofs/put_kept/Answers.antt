-- `body::put_kept` meets its contract: by the offsets of the list before it, or by a selection of its rows. Assumes nothing.
use mathlib.Core.Path.{sym, ◌∙◌}
use native.Mathlib.Omega.{arith}
use Rattle.body.proofs.Listed.{node-after}
use Rattle.body.proofs.put_kept.Goals as goal

pub overflow_sub-i : goal.overflow_sub-i
overflow_sub-i c = omega (arith, node-after _ _ (sym c.copied_by_offsets.ensures ∙ c.if-copied_by_offsets.true))

pub put_listed-requires : goal.put_listed-requires
put_listed-requires c =
    let d = sym c.copied_by_offsets.ensures ∙ c.if-copied_by_offsets.true in
    let q = c.requires in
    rw (node-after _ _ d) (record { i_bound = (q.i_bound.0, d); room = q.room })

pub returns-then-copied_by_offsets : goal.returns-then-copied_by_offsets
returns-then-copied_by_offsets c = rw (node-after _ _ (sym c.copied_by_offsets.ensures ∙ c.if-copied_by_offsets.true)) at c.put_listed.ensures
