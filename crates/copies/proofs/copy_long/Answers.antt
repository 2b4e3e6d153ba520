-- `copies::copy_long` meets its contract. A turn writes the 32 bytes from 32 i on; the last move writes from k on, over what stands there already. Assumes nothing.
use Rattle.std.proofs.Common.{◌≡◌, ◌+◌, ◌-◌, ◌*◌, refl, sym, ap, arith}
use Rattle.format.specs.Bytes.{bytes_at}
use Rattle.format.proofs.Numbers.{bytes-none, length-bytes}
use Rattle.format.proofs.Put.{none, named}
use Rattle.copies.proofs.Overlap.{overlap}
use Rattle.copies.proofs.copy_long.Goals as goal

pub loop-i-init : goal.loop-i-init
loop-i-init c = none (bytes-none _ _ _ refl) (omega arith)

pub loop-i-preserved : goal.loop-i-preserved
loop-i-preserved c =
    let a = c.args in
    let i = c.loop-i.i in
    let all = overlap a.src.now a.from (32 * i) (32 * i) 32 (omega arith) (omega arith) (omega arith) c.loop-i.invariant c.move_bytes.ensures in
    let next : 32 * i + 32 ≡ 32 * (i + 1) = omega arith in
    rw (← next) (record { bytes = all.bytes; place = ap (a.at +◌) (sym (length-bytes a.src.now a.from (32 * i + 32) (omega arith))) })

pub returns : goal.returns
returns c =
    let a = c.args in
    named (overlap a.src.now a.from (32 * c.loop-i.i) (a.n - 32) 32 (omega arith) (omega arith) (omega arith) c.loop-i.invariant c.move_bytes-2.ensures) (ap (bytes_at _ _) (omega arith))
