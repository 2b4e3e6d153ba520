-- `copies::pair` meets its contract: two moves that overlap. Assumes nothing.
use Rattle.std.proofs.Common.{◌-◌, ap, arith}
use Rattle.format.specs.Bytes.{bytes_at}
use Rattle.format.proofs.Put.{named}
use Rattle.copies.proofs.Overlap.{overlap}
use Rattle.copies.proofs.pair.Goals as goal

pub returns : goal.returns
returns g c =
    let a = c.args in
    let n = g.row.N in
    named (overlap a.src.now a.from n (a.n - n) n (omega arith) (omega arith) (omega arith) c.move_bytes.ensures c.move_bytes-2.ensures) (ap (bytes_at _ _) (omega arith))
