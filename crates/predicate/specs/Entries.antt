-- What bits pick, as rows and as a route's list has it. Assumes nothing.
use Rattle.std.specs.Prelude.{ℕ, Bool, List, []}
use Rattle.format.specs.declared.Route.{Route}
use Rattle.format.specs.declared.Route.TheVariants as route
use Rattle.format.specs.Slots.{picks_from, runs_from, starts_and_ends}
use Rattle.slots.specs.declared.Bits.{Bits}
use Rattle.slots.specs.declared.Source.{Source}
use Rattle.slots.specs.Source.{slot_of}

-- the rows that bits in a slice pick, rising; and start and end of each run of them
abbrev pub picks_by : List ℕ → Bits → List ℕ
picks_by s b = picks_from (slot_of s b) b.len 0

abbrev pub bounds_by : List ℕ → Bits → List ℕ
bounds_by s b = starts_and_ends (runs_from (slot_of s b) b.len 0)

-- the rows that a source picks
abbrev pub picked : Source → List ℕ
picked source = picks_by source.bytes.now source.bits

-- routes none and all store no entry; start and end of each run; or row numbers
abbrev pub entries_on : Route → (ℕ → Bool) → ℕ → List ℕ
entries_on route.None p len = []
entries_on route.All p len = []
entries_on route.Slices p len = starts_and_ends (runs_from p len 0)
entries_on route.Indices p len = picks_from p len 0
