-- What a selection stands for: its rows, and the selection of a route. Assumes nothing.
use Rattle.std.specs.Prelude.{◌≡◌, ℕ, ◌-◌, List, [], ◌∷◌, ◌++◌, Option, Some, None}
use denote.Ref.{Bor}
use Rattle.format.specs.declared.Route.{Route}
use Rattle.format.specs.declared.Route.TheVariants as route
use Rattle.format.specs.Slots.{count_up}
use Rattle.slots.specs.Source.{Lies}
use Rattle.slots.specs.declared.Source.{Source}
use Rattle.predicate.specs.Entries.{picks_by, picked}
use Rattle.predicate.specs.declared.stored.StoredRuns.{StoredRuns}
use Rattle.predicate.specs.declared.stored.StoredRows.{StoredRows}
use Rattle.predicate.specs.declared.Selection.{Selection}
use Rattle.predicate.specs.declared.Selection.TheVariants.{Nothing, Everything, Words, Runs, Rows}

-- ---- the rows of a selection

-- rising: none, all of so many, or those that its bits pick
abbrev pub selected : Selection → List ℕ
selected Nothing = []
selected (Everything n) = count_up n 0
selected (Words source) = picked source
selected (Runs stored) = picks_by stored.bytes.now stored.bits
selected (Rows stored) = picks_by stored.bytes.now stored.bits

-- all of them lie below
abbrev pub reach : Selection → ℕ
reach Nothing = 0
reach (Everything n) = n
reach (Words source) = source.bits.len
reach (Runs stored) = stored.bits.len
reach (Rows stored) = stored.bits.len

-- one that goes by a stored list has its bits in the slice, as a source has: what compress and counting read
abbrev pub Sourced : Selection → Type 0
Sourced Nothing = Unit {0}
Sourced (Everything n) = Unit {0}
Sourced (Words source) = Unit {0}
Sourced (Runs stored) = Lies stored.bytes.now stored.bits
Sourced (Rows stored) = Lies stored.bytes.now stored.bits

-- the rows of a list of starts and ends; and the rows that a selection has by its words or its list
unfoldable pub run_rows : List ℕ → List ℕ
run_rows [] = []
run_rows (a ∷ []) = []
run_rows (a ∷ e ∷ xs) = count_up (e - a) a ++ run_rows xs

abbrev pub rows_of : Selection → List ℕ
rows_of Nothing = []
rows_of (Everything n) = count_up n 0
rows_of (Words source) = picked source
rows_of (Runs stored) = run_rows stored.ends.now
rows_of (Rows stored) = stored.rows.now

-- ---- a route's selection

-- by the source's words, or by its stored list where there is one
abbrev pub Selects : Route → Source → Option (Bor (List ℕ)) → Selection → Type 0
Selects route.None source list sel = sel ≡ Nothing
Selects route.All source list sel = sel ≡ Everything source.bits.len
Selects route.Slices source None sel = sel ≡ Words source
Selects route.Slices source (Some list) sel = (r : StoredRuns) × (sel ≡ Runs r) × (r.bytes ≡ source.bytes) × (r.bits ≡ source.bits) × (r.ends ≡ list)
Selects route.Indices source None sel = sel ≡ Words source
Selects route.Indices source (Some list) sel = (r : StoredRows) × (sel ≡ Rows r) × (r.bytes ≡ source.bytes) × (r.bits ≡ source.bits) × (r.rows ≡ list)
