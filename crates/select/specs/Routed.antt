-- What selecting and writing rest on: the route, the room, and where rows are few. Assumes nothing.
use Rattle.std.specs.Prelude.{ℕ, ◌*◌, ◌≤◌, Bool, true, false, List, ◌≡◌, length}
use Rattle.format.specs.declared.Route.{Route}
use Rattle.format.specs.declared.Route.TheVariants.{Indices}
use Rattle.format.specs.Answer.{scratch_needed}
use Rattle.format.specs.Mask.{route_of}
use Rattle.format.specs.Node.{node_count, rows}
use Rattle.format.specs.Verdict.{pack_limit}
use Rattle.format.specs.Write.{extract}
use Rattle.slots.specs.declared.Source.{Source}
use Rattle.nesting.specs.declared.Counted.{Counted}
use Rattle.nesting.specs.Rows.{picks_in}

-- a route that has the picked rows: that of their count; or row numbers, which have them by any count
pub data Goes : Route → Source → Type 0 where
  by_count : {s : Source} → Goes (route_of s.bits.len (length (picks_in s))) s
  by_rows : {s : Source} → Goes Indices s

-- the rows of all nodes are counted, the mask is not longer than the journal, scratch is as long as is needed, and the output as the extract
pub record Ready (c : Counted) (scratch output : List ℕ) : Type 0 where
  pub known : c.known ≡ node_count c.journal.now.bytes.now
  pub long : c.source.bits.len ≤ rows c.journal.now.bytes.now 0
  pub needs : length scratch ≡ scratch_needed c.journal.now.bytes.now
  pub sizes : length output ≡ length (extract c.journal.now.bytes.now (picks_in c.source))
  pub small : length output ≤ pack_limit

-- the answer is true only where no list is asked for and at most one in 64 slots is picked
pub record Few (t asked : Bool) (kept len : ℕ) : Type 0 where
  pub unasked : t ≡ true → asked ≡ false
  pub few : t ≡ true → 64 * kept ≤ len
