-- Stretches of rows that are alike; what was told last of each node; where a list's rows were looked for. Assumes nothing.
use Rattle.std.specs.Prelude.{ℕ, suc, ◌-◌, ◌≤◌, ◌<◌, Bool, true, false, List, ◌≡◌, slice_index_or, slice_set}
use Rattle.format.specs.Node.{node_count, rows, skip, valid, first_number, run_end}
use Rattle.format.specs.Slots.{All}
use Rattle.nesting.specs.declared.Counted.{Counted}
use Rattle.nesting.specs.Rows.{keeps, picks_in}
use Rattle.stretches.specs.declared.Place.{Place}
use Rattle.stretches.specs.declared.Place.TheVariants.{Row, Gap}
use Rattle.stretches.specs.declared.Seen.{Seen}
use Rattle.stretches.specs.declared.Stretch.{Stretch}

-- of n rows, row r and those after it up to e are alike: all pass the test, or none
pub record Alike (p : ℕ → Bool) (r n : ℕ) (t : Bool) (e : ℕ) : Type 0 where
  pub some : r < e
  pub high : e ≤ n
  pub same : All p t r e

-- the bytes of the journal; row r of its node i is kept; and so are node i's rows from r up to e, or none of them is
abbrev pub bytes_in : Counted → List ℕ
bytes_in c = c.journal.now.bytes.now

abbrev pub kept_in : Counted → ℕ → ℕ → Bool
kept_in c = keeps (bytes_in c) (picks_in c.source)

abbrev pub AlikeRows : Counted → (i r : ℕ) (t : Bool) (e : ℕ) → Type 0
AlikeRows c i r t e = Alike (kept_in c i) r (rows (bytes_in c) i) t e

-- of n rows, those that were told of are as they were told; the row to look from is a hint of which nothing is asked
pub record Holds (p : ℕ → Bool) (n : ℕ) (s : Seen) : Type 0 where
  pub high : s.stretch.end ≤ n
  pub same : All p s.stretch.kept s.from s.stretch.end

-- nothing was told
abbrev pub unseen : Seen
unseen = record { from = 0; stretch = record { kept = false; end = 0 }; row = 0 }

-- what is kept in mind of node i replaced: its rows from `from` on are such a stretch
abbrev pub noted : List Seen → ℕ → ℕ → Stretch → ℕ → List Seen
noted seen i from stretch row = slice_set seen i (record { from = from; stretch = stretch; row = row })

-- what was told last of each node
pub record Recalled (b root : List ℕ) (seen : List Seen) : Type 0 where
  pub at : (i : ℕ) → i < node_count b → Holds (keeps b root i) (rows b i) (slice_index_or seen i unseen)

-- no row of list node i before row r has child rows past x
pub record Before (w : ℕ) (b : List ℕ) (i x r : ℕ) : Type 0 where
  pub high : r ≤ rows b i
  pub before : (k : ℕ) → k < r → first_number w b i (suc k) ≤ x

-- row r is the first of list node i whose child rows end past x, or there is none
pub record Past (w : ℕ) (b : List ℕ) (i x r : ℕ) : Type 0 where
  pub high : r ≤ rows b i
  pub before : (k : ℕ) → k < r → first_number w b i (suc k) ≤ x
  pub here : r < rows b i → x < first_number w b i (suc r)

-- the runs of runs node i after run r, up to e, end by row x, counted after skip
pub record Ended (b : List ℕ) (i r x e : ℕ) : Type 0 where
  pub low : r < e
  pub high : e ≤ rows b (suc i)
  pub ends : (j : ℕ) → r < j → j < e → run_end b i j - skip b i ≤ x

-- child row x of list node i is one of row r, which is valid
pub record InRow (w : ℕ) (b : List ℕ) (i x r : ℕ) : Type 0 where
  pub inside : r < rows b i
  pub is_valid : valid b i r ≡ true
  pub low : first_number w b i r ≤ x
  pub past : x < first_number w b i (suc r)

-- it is one of no valid row, nor is a child row after it up to e
pub record InNone (w : ℕ) (b : List ℕ) (i x e : ℕ) : Type 0 where
  pub some : x < e
  pub high : e ≤ rows b (suc i)
  pub none : (y r : ℕ) → x ≤ y → y < e → r < rows b i → valid b i r ≡ true → first_number w b i r ≤ y → y < first_number w b i (suc r) → ⊥

-- where it is
abbrev pub Found : ℕ → List ℕ → ℕ → ℕ → Place → Type 0
Found w b i x (Row r) = InRow w b i x r
Found w b i x (Gap e r) = InNone w b i x e
