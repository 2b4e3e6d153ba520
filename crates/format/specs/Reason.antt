-- The reasons of refusals, and their numbers (docs/FORMAT.md, 11). Assumes nothing.
use Rattle.std.specs.Prelude.{ℕ, ◌-◌, List, [], ◌∷◌, Result, Ok, Err, slice_index_or}
use Rattle.format.specs.declared.Reason.{Reason}
use Rattle.format.specs.declared.Reason.TheVariants.{Size, Mark, Table, Fields, Tree, Rows, Buffers, Content, MaskKind, TooLong, Count, List as Listing, Scratch, Output, Nulls}

-- the number of each
abbrev pub reason_number : Reason → ℕ
reason_number Size = 1
reason_number Mark = 2
reason_number Table = 3
reason_number Fields = 4
reason_number Tree = 5
reason_number Rows = 6
reason_number Buffers = 7
reason_number Content = 8
reason_number MaskKind = 9
reason_number TooLong = 10
reason_number Count = 11
reason_number Listing = 12
reason_number Scratch = 13
reason_number Output = 14
reason_number Nulls = 20

-- the reason of a number: of 1 to 14, in order, and of 20; no other number is one of a refusal
abbrev pub reasons : List Reason
reasons = Size ∷ Mark ∷ Table ∷ Fields ∷ Tree ∷ Rows ∷ Buffers ∷ Content ∷ MaskKind ∷ TooLong ∷ Count ∷ Listing ∷ Scratch ∷ Output ∷ []

unfoldable pub reason_of : ℕ → Reason
reason_of n = slice_index_or reasons (n - 1) Nulls

-- the number of a pack's verdict: 0 where it is accepted
abbrev pub verdict_number : Result (Unit {0}) Reason → ℕ
verdict_number (Ok u) = 0
verdict_number (Err reason) = reason_number reason

-- to unfold `opened` is to unfold all of this module
unfoldable pub opened : Unit {0}
unfolding reason_of
opened = tt
