-- The entries of a column. Assumes nothing.
use Rattle.std.specs.Prelude.{ℕ, List}
use Rattle.append.specs.Cells.{entries_of}
use Rattle.gather.specs.declared.Column.{Column}

-- the entries of rows, one after another
abbrev pub entries_in : Column → List ℕ → List ℕ
entries_in c = entries_of c.width c.src.now c.first
