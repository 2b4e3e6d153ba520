-- What a mask picks, its count and route, and the list that a caller may have stored (docs/FORMAT.md, 6). Assumes nothing.
use Rattle.std.specs.Prelude.{ℕ, zero, suc, ◌+◌, ◌-◌, ◌*◌, ◌/◌, Bool, false, cond, not, ◌&&◌, ◌||◌, List, [], length, ◌==◌, nat_le, nat_lt}
use Rattle.std.specs.Bool.{beq}
use Rattle.format.specs.declared.Route.{Route}
use Rattle.format.specs.declared.Route.TheVariants.{None, All, Slices, Indices}
use Rattle.format.specs.Bytes.{bit_at, chosen}
use Rattle.format.specs.Node.{rows, skip, first_at, valid}

-- slot i is picked: true and not null
unfoldable pub picked : List ℕ → ℕ → Bool
picked m i = bit_at m (first_at m 0) (skip m 0 + i) && valid m 0 i

unfoldable pub mask_length : List ℕ → ℕ
mask_length m = rows m 0

-- the row numbers of the picked slots, rising
unfoldable pub picks : List ℕ → List ℕ
picks m = chosen (picked m) (mask_length m)

unfoldable pub count : List ℕ → ℕ
count m = length (picks m)

-- the route, from length and count
unfoldable pub route_of : ℕ → ℕ → Route
route_of n c =
    cond (n == 0 || c == 0) None
    (cond (c == n) All
    (cond (nat_lt (4 * n) (5 * c)) Slices
    Indices))

-- the number of each route, where an answer is given by numbers
abbrev pub route_number : Route → ℕ
route_number None = 0
route_number All = 1
route_number Slices = 2
route_number Indices = 3

unfoldable pub route : List ℕ → Route
route m = route_of (mask_length m) (count m)

-- slot i - 1 is in the selection; nothing stands before slot 0
unfoldable pub before : (ℕ → Bool) → ℕ → Bool
before p zero = false
before p (suc i) = p i

-- the starts and ends of the maximal runs [start, end) below n, in turn: the places where the selection begins or stops
unfoldable pub edges : (ℕ → Bool) → ℕ → List ℕ
edges p n = chosen (λ i. not (beq (before p i) (nat_lt i n && p i))) (suc n)

-- the entries that a stored list has
unfoldable pub entries_for : Route → List ℕ → List ℕ
entries_for None m = []
entries_for All m = []
entries_for Slices m = edges (picked m) (mask_length m)
entries_for Indices m = picks m

unfoldable pub entries : List ℕ → List ℕ
entries m = entries_for (route m) m

-- a bitmap column is copied by runs or row numbers, and not by compress (6): by length, count and whether indices are stored
unfoldable pub by_route : ℕ → ℕ → Bool → Bool
by_route n c stored = nat_le (n - n / 64) c || nat_le c (n / 64) && stored

-- to unfold `opened` is to unfold all of this module
unfoldable pub opened : Unit {0}
unfolding picked mask_length picks count route_of route before edges entries_for entries by_route
opened = tt
