-- Slots from a place on: those that pass a test, their maximal runs, the word of their tests (docs/FORMAT.md, 6).
-- Each definition takes how many slots are left, and the next one: what a cursor has still to give. Assumes nothing.
use Rattle.std.specs.Prelude.{◌≡◌, ℕ, zero, suc, ◌-◌, ◌<◌, ◌≤◌, Bool, true, false, not, ◌&&◌, List, [], ◌∷◌, ◌++◌, ◌==◌, nat_le, nat_lt}
use Rattle.format.specs.Words.{word_of}

-- the tests of the n slots from i on
unfoldable pub slots_from : (ℕ → Bool) → ℕ → ℕ → List Bool
slots_from p zero i = []
slots_from p (suc n) i = p i ∷ slots_from p n (suc i)

-- their word, low bit first
unfoldable pub word_from : (ℕ → Bool) → ℕ → ℕ → ℕ
word_from p n i = word_of (slots_from p n i)

-- a test cut to the slots before n, and to those from n on
abbrev pub up_to : (ℕ → Bool) → ℕ → ℕ → Bool
up_to p n j = nat_lt j n && p j

abbrev pub after : (ℕ → Bool) → ℕ → ℕ → Bool
after p n j = nat_le n j && p j

-- i in front of the numbers l, where the test says so
abbrev pub pick : Bool → ℕ → List ℕ → List ℕ
pick true i l = i ∷ l
pick false i l = l

-- the numbers of the n slots from i on that pass, rising
unfoldable pub picks_from : (ℕ → Bool) → ℕ → ℕ → List ℕ
picks_from p zero i = []
picks_from p (suc n) i = pick (p i) i (picks_from p n (suc i))

-- the n numbers from i on
unfoldable pub count_up : ℕ → ℕ → List ℕ
count_up zero i = []
count_up (suc n) i = i ∷ count_up n (suc i)

-- A run is the pair of its start and its end, [start, end).
-- the run at the head of rs starts at i + 1 (the test) and now starts at i; or i is a run by itself
abbrev pub joined : Bool → ℕ → ℕ × ℕ → List (ℕ × ℕ) → List (ℕ × ℕ)
joined true i r rs = (i, r.1) ∷ rs
joined false i r rs = (i, suc i) ∷ r ∷ rs

-- slot i, in front of the runs of later slots
abbrev pub join_run : ℕ → List (ℕ × ℕ) → List (ℕ × ℕ)
join_run i [] = (i, suc i) ∷ []
join_run i (r ∷ rs) = joined (r.0 == suc i) i r rs

abbrev pub join_if : Bool → ℕ → List (ℕ × ℕ) → List (ℕ × ℕ)
join_if true i rs = join_run i rs
join_if false i rs = rs

-- the maximal runs of passing slots among the n slots from i on, rising
unfoldable pub runs_from : (ℕ → Bool) → ℕ → ℕ → List (ℕ × ℕ)
runs_from p zero i = []
runs_from p (suc n) i = join_if (p i) i (runs_from p n (suc i))

-- the numbers of a list of runs; and start and end of each
unfoldable pub covered : List (ℕ × ℕ) → List ℕ
covered [] = []
covered (r ∷ rs) = count_up (r.1 - r.0) r.0 ++ covered rs

unfoldable pub starts_and_ends : List (ℕ × ℕ) → List ℕ
starts_and_ends [] = []
starts_and_ends (r ∷ rs) = r.0 ∷ r.1 ∷ starts_and_ends rs

-- every slot of [a, e) has the answer t
pub record All (p : ℕ → Bool) (t : Bool) (a e : ℕ) : Type 0 where
  pub at : (j : ℕ) → a ≤ j → j < e → p j ≡ t

-- r is the first slot of [from, len) whose test is `want`, or len
pub record Sought (p : ℕ → Bool) (from len : ℕ) (want : Bool) (r : ℕ) : Type 0 where
  pub low : from ≤ r
  pub high : r ≤ len
  pub passed : All p (not want) from r
  pub here : r < len → p r ≡ want

-- [a, e) is the first maximal run in [from, len)
pub record FirstRun (p : ℕ → Bool) (from len a e : ℕ) : Type 0 where
  pub low : from ≤ a
  pub filled : a < e
  pub high : e ≤ len
  pub before : All p false from a
  pub within : All p true a e
  pub stops : e < len → p e ≡ false

-- to unfold `opened` is to unfold all of this module
unfoldable pub opened : Unit {0}
unfolding slots_from word_from picks_from count_up runs_from covered starts_and_ends
opened = tt
