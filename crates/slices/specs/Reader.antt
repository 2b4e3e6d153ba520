-- What an iterator over runs gives, and where it stands afterwards. Assumes nothing.
use Rattle.std.specs.Prelude.{◌≡◌, ℕ, ◌-◌, List, Option}
use Rattle.std.specs.Borrow.{Bor}
use Rattle.std.specs.Option.{option_map_or}
use Rattle.format.specs.Slots.{runs_from}
use Rattle.slots.specs.declared.Bits.{Bits}
use Rattle.slots.specs.Source.{slot_of, Lies}
use Rattle.scan.specs.Asked.{first_run}
use Rattle.slices.specs.declared.SlicesIterator.{SlicesIterator}

-- one at the first slot
abbrev pub begun : Bor (List ℕ) → Bits → SlicesIterator
begun s b = record { mask = s; bits = b; at = 0 }

-- its bits lie in its bytes
abbrev pub Stands : SlicesIterator → Type 0
Stands i = Lies i.mask.now i.bits

-- the runs that are left
abbrev pub runs_left : SlicesIterator → List (ℕ × ℕ)
runs_left i = runs_from (slot_of i.mask.now i.bits) (i.bits.len - i.at) i.at

-- the first of them, which it gives next
abbrev pub run_at : SlicesIterator → Option (ℕ × ℕ)
run_at i = first_run (runs_left i)

-- where it then stands: same bytes, same bits, behind the run that it gave, or at the end
abbrev pub advanced : SlicesIterator → SlicesIterator
advanced i = record { mask = i.mask; bits = i.bits; at = option_map_or (λ r. r.1) (run_at i) i.bits.len }

-- what a call of `next` gives, and where it leaves the iterator
abbrev pub GivesRun : SlicesIterator → Option (ℕ × ℕ) → SlicesIterator → Type 0
GivesRun i r t = (r ≡ run_at i) × (t ≡ advanced i)
