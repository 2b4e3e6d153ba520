-- Where the parts of a line end: at the first byte that passes a test, or at the text's end. Assumes nothing.
use Rattle.std.specs.Prelude.{ℕ, Bool, ◌||◌, List, ◌==◌}
use Rattle.std.specs.List.{position_or_len, after_first}

-- a name ends at a space (32) or the line's end (10)
abbrev pub ends_name : ℕ → Bool
ends_name c = c == 32 || c == 10

abbrev pub name_end : List ℕ → ℕ
name_end = position_or_len ends_name

-- a part ends at a bar (124) or the line's end, and the next part begins behind it
abbrev pub ends_part : ℕ → Bool
ends_part c = c == 124 || c == 10

abbrev pub part_rest : List ℕ → List ℕ
part_rest = after_first ends_part

abbrev pub ends_line : ℕ → Bool
ends_line c = c == 10

abbrev pub line_rest : List ℕ → List ℕ
line_rest = after_first ends_line
