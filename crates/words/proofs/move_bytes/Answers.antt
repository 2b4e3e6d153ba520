-- `words::move_bytes` meets its contract: two halves that meet are one. Assumes nothing.
use Rattle.std.proofs.Common.{◌∙◌, sym, ap}
use Rattle.format.specs.Bytes.{bytes_at}
use Rattle.format.proofs.Put.{then, named}
use Rattle.format.proofs.Numbers.{bytes-join}
use Rattle.words.proofs.move_bytes.Goals as goal

pub returns-then-this-eq32 : goal.returns-then-this-eq32
returns-then-this-eq32 g c =
    let first = named c.put_array-half.ensures c.array_at.ensures in
    let second = named c.put_array.ensures c.array_at-then-this-eq32.ensures in
    named (then first second) (sym (bytes-join _ _ 16 16) ∙ ap (bytes_at _ _) (sym c.if-this-eq32.true))
