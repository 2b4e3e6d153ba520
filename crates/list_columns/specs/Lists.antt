-- Rows of lists in a slice, as `Lists` names them: that it has so many, and by which offsets their sizes are. Assumes nothing.
use Rattle.std.specs.Prelude.{ℕ}
use Rattle.list_columns.specs.declared.Lists.{Lists}
use Rattle.list_columns.specs.Spans.{span_start, Spans}

abbrev pub Have : ℕ → Lists → ℕ → Type 0
Have w l n = Spans w l.src.now l.first l.from n

abbrev pub starts : ℕ → Lists → ℕ → ℕ
starts w l = span_start w l.src.now l.first l.from
