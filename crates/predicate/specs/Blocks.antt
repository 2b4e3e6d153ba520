-- Blocks of kept rows: which rows each form of block has, what is left of a selection, and what asking for the next block answers. Assumes nothing.
use Rattle.std.specs.Prelude.{◌≡◌, ℕ, ◌+◌, ◌-◌, ◌*◌, ◌/◌, ◌%◌, ◌^◌, ◌<◌, ◌≤◌, Bool, true, false, ◌||◌, List, [], ◌++◌, length, ◌==◌, Option, MatchOption}
use Rattle.format.specs.Bytes.{bytes_at}
use Rattle.format.specs.Rows.{set_rows}
use Rattle.format.specs.Slots.{count_up, word_from, after, All, picks_from, runs_from, starts_and_ends}
use Rattle.slots.specs.Source.{slot_of}
use Rattle.slots.specs.Slot.{slot_in}
use Rattle.predicate.specs.declared.Selection.{Selection}
use Rattle.predicate.specs.declared.Selection.TheVariants as sel
use Rattle.predicate.specs.declared.Block.{Block}
use Rattle.predicate.specs.declared.Block.TheVariants.{Run, Word, Listed}
use Rattle.predicate.specs.declared.Blocks.{Blocks}
use Rattle.predicate.specs.Selection.{reach}

-- the rows of a block
abbrev pub block_rows : Block → List ℕ
block_rows (Run a e) = count_up (e - a) a
block_rows (Word base x) = set_rows base x
block_rows (Listed rows) = rows.now

-- ---- what is left of a selection

-- which rows it keeps, by its bits; where none or all are kept no bit is read, so that rows without a source can be selected too
abbrev pub kept_by : Selection → ℕ → Bool
kept_by sel.Nothing = λ i. false
kept_by (sel.Everything n) = λ i. true
kept_by (sel.Words source) = slot_in source
kept_by (sel.Runs stored) = slot_of stored.bytes.now stored.bits
kept_by (sel.Rows stored) = slot_of stored.bytes.now stored.bits

-- the picked rows from row i on, and the starts and ends of their runs: what is still to come at i
unfoldable pub picks_on : (ℕ → Bool) → ℕ → ℕ → List ℕ
picks_on p len i = picks_from p (len - i) i

unfoldable pub edges_on : (ℕ → Bool) → ℕ → ℕ → List ℕ
edges_on p len i = starts_and_ends (runs_from p (len - i) i)

-- the rows that are left
abbrev pub rows_left : Blocks → List ℕ
rows_left s = picks_on (kept_by s.sel) (reach s.sel) s.place

-- the entries from `index` on are xs
pub record Lists (list : List ℕ) (index : ℕ) (xs : List ℕ) : Type 0 where
  pub room : index ≤ length list
  pub entries : bytes_at list index (length list - index) ≡ xs

-- what a stored list has yet to give is what its bits pick from the place on
abbrev pub HasLeft : Selection → ℕ → ℕ → Type 0
HasLeft sel.Nothing place index = Unit {0}
HasLeft (sel.Everything n) place index = Unit {0}
HasLeft (sel.Words source) place index = Unit {0}
HasLeft (sel.Runs stored) place index = Lists stored.ends.now index (edges_on (slot_of stored.bytes.now stored.bits) stored.bits.len place)
HasLeft (sel.Rows stored) place index = Lists stored.rows.now index (picks_on (slot_of stored.bytes.now stored.bits) stored.bits.len place)

-- a place among the rows, or behind the last of them; where none is kept, any
abbrev pub Inside : Selection → ℕ → Type 0
Inside sel.Nothing place = Unit {0}
Inside (sel.Everything n) place = place ≤ n
Inside (sel.Words source) place = place ≤ source.bits.len
Inside (sel.Runs stored) place = place ≤ stored.bits.len
Inside (sel.Rows stored) place = place ≤ stored.bits.len

-- from here blocks can be asked for, whether those before were blocks or not
pub record GoesOn (s : Blocks) : Type 0 where
  pub inside : Inside s.sel s.place
  pub agrees : HasLeft s.sel s.place s.index

-- what a list of runs has yet to give is what its bits pick from the place on; a list of rows gives all of them at once
abbrev pub Agrees : Selection → ℕ → ℕ → Type 0
Agrees sel.Nothing place index = Unit {0}
Agrees (sel.Everything n) place index = Unit {0}
Agrees (sel.Words source) place index = Unit {0}
Agrees (sel.Runs stored) place index = Lists stored.ends.now index (edges_on (slot_of stored.bytes.now stored.bits) stored.bits.len place)
Agrees (sel.Rows stored) place index = place < stored.bits.len → place ≡ 0

-- where blocks stand that are asked for from the start on
pub record InStep (s : Blocks) : Type 0 where
  pub inside : s.place ≤ reach s.sel
  pub agrees : Agrees s.sel s.place s.index

abbrev pub Begun : Selection → Blocks → Type 0
Begun s r = (r.sel ≡ s) × (r.place ≡ 0) × (r.index ≡ 0)

-- ---- the next block

-- the picked rows from `from` on are xs, and then those from `place` on
pub record Leaves (p : ℕ → Bool) (len from : ℕ) (xs : List ℕ) (place : ℕ) : Type 0 where
  pub rest : picks_on p len from ≡ xs ++ picks_on p len place
  pub moves : from < place
  pub inside : place ≤ len

-- a block lies in the rows below len
abbrev pub Within : ℕ → Block → Type 0
Within len (Run a e) = (a ≤ e) × (e ≤ len)
Within len (Word base x) = base ≤ len
Within len (Listed rows) = Unit {0}

-- one that words give lies there, and is no list
abbrev pub OfWords : ℕ → Block → Type 0
OfWords len (Run a e) = (a ≤ e) × (e ≤ len)
OfWords len (Word base x) = base ≤ len
OfWords len (Listed rows) = ⊥

-- what the words of a source answer: a block, and the row behind it
abbrev pub Worded : (ℕ → Bool) → ℕ → ℕ → Block × ℕ → Type 0
Worded p len from r = OfWords len r.0 × Leaves p len from (block_rows r.0) r.1

-- the first block of what is left; or nothing, where no row is left
pub record GivesBlock (s : Blocks) (r : Option Block) (t : Blocks) : Type 0 where
  pub same : t.sel ≡ s.sel
  pub gives : MatchOption r (rows_left s ≡ []) (λ block. Within (reach s.sel) block × (rows_left s ≡ block_rows block ++ rows_left t))

-- what a call of `next` gives; blocks in step stay so
pub record GivesNext (s : Blocks) (r : Option Block) (t : Blocks) : Type 0 where
  pub block : GivesBlock s r t
  pub stays : InStep s → InStep t

-- no row from `from` up to word w is picked, and x is what is left of that word: some row
pub record Found (p : ℕ → Bool) (from w x : ℕ) : Type 0 where
  pub near : from ≤ 64 * w + 64
  pub gap : All p false from (64 * w)
  pub is : x ≡ word_from (after p from) 64 (64 * w)
  pub some : 0 < x

-- every row of [a, r) is picked
pub record Filled (p : ℕ → Bool) (a len r : ℕ) : Type 0 where
  pub low : a ≤ r
  pub high : r ≤ len
  pub all : All p true a r

-- [a, e) are the first rows picked from `from` on: a run, which need not be maximal
pub record Ran (p : ℕ → Bool) (len from a e : ℕ) : Type 0 where
  pub low : from ≤ a
  pub some : a < e
  pub high : e ≤ len
  pub before : All p false from a
  pub within : All p true a e

-- the run picked next that starts in the word of `from`; or none, where no row of that word is left
abbrev pub NextRun : (ℕ → Bool) → ℕ → ℕ → Option (ℕ × ℕ) → Type 0
NextRun p len from r = MatchOption r (All p false from (64 * (from / 64) + 64)) (λ run. Ran p len from run.0 run.1)

-- a word whose lowest 16 bits are set, and one whose lowest or highest are: how rows are best taken, whichever way gives the same rows
abbrev pub starts_long : ℕ → Bool
starts_long x = x % 0x10000 == 0xFFFF

abbrev pub as_runs : ℕ → Bool
as_runs x = starts_long x || x / 2 ^ 48 == 0xFFFF
