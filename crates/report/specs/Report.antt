-- The line that the program `extract` prints of an answer, as bytes (docs/FORMAT.md, 10). Assumes nothing.
use Rattle.std.specs.Prelude.{ℕ, List, ◌++◌, codes, Result, Ok, Err}
use Rattle.format.specs.declared.Done.{Done}
use Rattle.format.specs.declared.Refused.{Refused}
use Rattle.format.specs.Names.{done_text, refused_text}

-- kept, mask length, route, extract length; or the refusal's number and pack
abbrev pub line_of : Result Done Refused → List ℕ
line_of (Ok done) = done_text done ++ codes "\n"
line_of (Err refused) = refused_text refused ++ codes "\n"

-- the digits of 2 ^ 64 - 1: no number here has more
abbrev pub most_digits : ℕ
most_digits = 20

-- the letters of "indices" and of "journal"
abbrev pub longest_name : ℕ
longest_name = 7

-- room for any line: the longest has three numbers, a route and 24 other bytes, 91 in all; this is the next power of two
abbrev pub line_room : ℕ
line_room = 128
