-- Rows with own bytes in a slice, as `OwnBytes` names them: that it has so many, and what rows have of their own. Assumes nothing.
use Rattle.std.specs.Prelude.{ℕ, List}
use Rattle.texts.specs.declared.OwnBytes.{OwnBytes}
use Rattle.texts.specs.Texts.{start_in, texts_of, Texts}

abbrev pub Have : OwnBytes → ℕ → Type 0
Have t n = Texts t.unit t.width t.src.now t.first t.start n

abbrev pub own_of : OwnBytes → List ℕ → List ℕ
own_of t rs = texts_of (start_in t.unit t.width t.src.now t.first) t.src.now t.start rs
