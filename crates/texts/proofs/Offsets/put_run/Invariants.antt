-- What the loop of `Offsets::put_run` keeps: where the rows from `row` on end is still to be written; the row before ends where its offset is, moved as the first one is. Assumes nothing.
use Rattle.std.proofs.Common.{◌+◌, ◌-◌}
use Rattle.format.specs.Slots.{count_up}
use Rattle.texts.specs.Texts.{offset}
use Rattle.texts.proofs.TextLaws.{Ending}
use Rattle.texts.proofs.Offsets.put_run.Given as goal

abbrev pub invariant-loop-row : goal.invariant-loop-row
invariant-loop-row g l =
    let o = offset g.N.Number.WIDTH l.self.src.now l.self.first in
    Ending g.N.Number.WIDTH o l.to.sum (count_up (l.e - l.a) l.a) l.initial.out l.to.next l.out l.here (o l.row - o l.a + l.to.sum) (count_up (l.e - l.row) l.row)
