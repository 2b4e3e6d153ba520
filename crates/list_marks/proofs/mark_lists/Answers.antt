-- `list_marks::mark_lists` meets its contract: marks over zeros. Assumes nothing.
use native.Mathlib.Omega.{arith}
use Rattle.format.specs.Bytes.{bytes_for}
use Rattle.list_marks.proofs.Words.{region-packed}
use Rattle.list_marks.proofs.mark_lists.Goals as goal

pub mark_words-requires : goal.mark_words-requires
unfolding bytes_for
mark_words-requires c =
    let q = c.requires in
    record { sifted = q.sifted; room = omega (arith, q.size, c.fill.ensures.len) }

pub returns : goal.returns
returns c =
    let a = c.args in
    region-packed a.list.at a.source.bytes.now a.source.bits c.requires.sifted a.region.now c.requires.size (c.fill.ensures.after (λ y same. same)) c.mark_words.ensures
