-- `filter::filter_listed` meets its contract: 13, 14, or the extract, over the fronts of output and scratch. Assumes nothing.
use Prim.Native.Nat.{ℕ}
use mathlib.Core.Path.{sym, ap, ◌∙◌}
use lib.ListN.{replicate}
use lib.Seq.{length-take-le}
use Rattle.select.specs.Routed.{by_count}
use Rattle.filter.proofs.Ways.{short-bits, kept-picks, rooted, list-room, short-scratch, short-output, fits-room, fits-pack, done}
use Rattle.filter.proofs.filter_listed.Goals as goal

pub returns-then-scratch-need : goal.returns-then-scratch-need
returns-then-scratch-need c = rw c.new.ensures (short-scratch c.args.mask.counted c.requires c.scratch_needed-need.ensures c.if-scratch-need.true)

pub count_all-counts-requires : goal.count_all-counts-requires
count_all-counts-requires c = let k = c.args.mask.counted in record { rooted = rooted k c.requires; kept_value = kept-picks k c.requires }

pub invariant_of-counted : goal.invariant_of-counted
invariant_of-counted c =
    record { ready = record { sound = c.args.journal.now.sound; rooted = rooted c.args.mask.counted c.requires; counted = rw c.node_count.ensures c.count_all-counts.ensures } }

pub measure-size-requires : goal.measure-size-requires
measure-size-requires c = record { known = c.node_count.ensures; long = short-bits c.args.mask.counted c.requires }

pub returns-then-too_long : goal.returns-then-too_long
returns-then-too_long c =
    rw c.new-then-too_long.ensures
    (short-output c.args.mask.counted c.requires c.scratch_needed-need.ensures c.if-scratch-need.false c.measure-size.ensures (sym c.too_long.ensures ∙ c.if-too_long.true))

pub slice_bounds-select_and_write-end-3 : goal.slice_bounds-select_and_write-end-3
slice_bounds-select_and_write-end-3 c = fits-room _ _ (sym c.too_long.ensures ∙ c.if-too_long.false)

pub slice_bounds-select_and_write-end-4 : goal.slice_bounds-select_and_write-end-4
slice_bounds-select_and_write-end-4 c = sym (length-take-le _ _ (fits-room _ _ (sym c.too_long.ensures ∙ c.if-too_long.false)))

pub select_and_write-requires : goal.select_and_write-requires
select_and_write-requires c =
    let m = c.args.mask in
    let p = c.requires in
    let fine = sym c.too_long.ensures ∙ c.if-too_long.false in
    let long = length-take-le c.measure-size.result c.args.output.now (fits-room _ _ fine) in
    record {
      goes = rw (m.goes, kept-picks m.counted p) by_count;
      room = list-room m.counted m.goes p;
      ready = record {
        known = c.node_count.ensures;
        long = short-bits m.counted p;
        needs = length-take-le _ _ c.if-scratch-need.false ∙ c.scratch_needed-need.ensures;
        sizes = long ∙ c.measure-size.ensures;
        small = rw long (fits-pack _ _ fine);
      };
    }

pub returns : goal.returns
returns c =
    let m = c.args.mask in
    let w = c.select_and_write.ensures in
    done m.counted c.requires c.scratch_needed-need.ensures c.if-scratch-need.false c.measure-size.ensures m.goes (sym c.too_long.ensures ∙ c.if-too_long.false)
    w.0 w.2 (w.1 ∙ ap (λ (n : ℕ). replicate n 0) (length-take-le _ _ c.if-scratch-need.false))
