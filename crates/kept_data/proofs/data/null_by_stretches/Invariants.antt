-- What the loops of `null_by_stretches` keep: no kept row that was passed is null. Assumes nothing.
use Rattle.std.proofs.Common.{◌≡◌, ◌*◌, min, false, not, ◌&&◌}
use Rattle.format.specs.Bytes.{any_below}
use Rattle.format.specs.Node.{rows, valid}
use Rattle.stretches.specs.Stretches.{bytes_in, kept_in}
use Rattle.kept_data.proofs.data.null_by_stretches.Given as goal

abbrev pub invariant-loop-w : goal.invariant-loop-w
invariant-loop-w l =
    let b = bytes_in l.counted in
    (l.stretches.counted ≡ l.counted) × (any_below (λ q. kept_in l.counted l.node q && not (valid b l.node q)) (min (rows b l.node) (64 * l.w)) ≡ false)

abbrev pub invariant-loop-row : goal.invariant-loop-row
invariant-loop-row l = (l.stretches.counted ≡ l.counted) × (any_below (λ q. kept_in l.counted l.node q && not (valid (bytes_in l.counted) l.node q)) l.row ≡ false)
