-- `slots::Source::last_word` meets its contract: past the last slot there is none. Assumes nothing.
use Prim.Native.Nat.{◌*◌}
use mathlib.Core.Path.{◌∙◌}
use Rattle.slots.proofs.Reading.{word-end}
use Rattle.slots.proofs.Source.last_word.Goals as goal

pub returns : goal.returns
returns c =
    let a = c.args in
    c.window.ensures ∙ word-end a.self.bytes.now a.self.bits _ (64 * a.w) c.requires c.min.ensures
