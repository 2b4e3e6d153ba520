-- Lists one below another, none with a bitmap: a row above has one range of rows at each level, from where it starts to where the next one does. Assumes nothing.
use Rattle.std.specs.Prelude.{ℕ, zero, suc, ◌+◌, ◌-◌, ◌*◌, ◌≤◌, true, List, [], ◌∷◌, map, ◌≡◌, length, slice_index_or}
use Rattle.format.specs.Bytes.{join}
use Rattle.format.specs.Slots.{count_up}
use Rattle.format.specs.Node.{rows, has_no_bitmap}
use Rattle.format.specs.Rows.{Below}
use Rattle.format.specs.Verdict.{one_of}
use Rattle.format.specs.Kept.{kept_rows}
use Rattle.nesting.specs.declared.lists.List as nested
use Rattle.spans.specs.declared.Offsets.{Offsets}
use Rattle.spans.specs.Spans.{offset_from, Rises, Mounts}
use Rattle.list_counts.specs.declared.chain.Levels.{Levels}

-- for each row r of a list the rows from e r up to e (r + 1), in order
unfoldable pub ranges : (ℕ → ℕ) → List ℕ → List ℕ
ranges e rs = join (map (λ r. count_up (e (suc r) - e r) (e r)) rs)

-- rows of the root start at e in the node: it keeps the ranges of those that the root keeps
pub record Starts (b : List ℕ) (node : ℕ) (e : ℕ → ℕ) : Type 0 where
  pub same : (root : List ℕ) → Below (rows b 0) root → kept_rows b root node ≡ ranges e root
  pub up : Rises e (rows b 0)
  pub inside : (r : ℕ) → r ≤ rows b 0 → e r ≤ rows b node

-- this list is node i, and has no bitmap
pub record Bare (b : List ℕ) (i : ℕ) (l : nested.List) : Type 0 where
  pub here : l.journal.now.bytes.now ≡ b
  pub is : l.node ≡ i
  pub bare : has_no_bitmap b i ≡ true

-- level k of an array of them
abbrev pub nowhere : Offsets
nowhere = record { first = 0; width = 0 }

abbrev pub level : List Offsets → ℕ → Offsets
level xs k = slice_index_or xs k nowhere

-- row r's offset of a level
abbrev pub started : List ℕ → Offsets → ℕ → ℕ
started b o r = offset_from o.width b o.first r

-- where a row of the outermost of n lists starts below the innermost, which is level 0
unfoldable pub followed : List ℕ → List Offsets → ℕ → ℕ → ℕ
followed b xs zero r = r
followed b xs (suc k) r = followed b xs k (started b (level xs k) r)

-- a level's offsets of len rows lie in b and stay within m
pub record Step (b : List ℕ) (o : Offsets) (len m : ℕ) : Type 0 where
  pub wide : one_of (2 ∷ 4 ∷ 8 ∷ []) o.width ≡ true
  pub lies : o.first + o.width * suc len ≤ length b
  pub inside : (r : ℕ) → r ≤ len → started b o r ≤ m

-- each of len rows, and the end of the last, can be followed down n levels
pub data Chain (b : List ℕ) (xs : List Offsets) : ℕ → ℕ → Type 0 where
  none : {len : ℕ} → Chain b xs 0 len
  more : {n len m : ℕ} → Step b (level xs n) len m → Chain b xs n m → Chain b xs (suc n) len

-- row r can be followed down n levels, of at most 8
pub record Reaches (b : List ℕ) (xs : List Offsets) (n r : ℕ) : Type 0 where
  pub few : n ≤ 8
  pub len : ℕ
  pub chain : Chain b xs n len
  pub inside : r ≤ len

-- the rows of the root can, and where they start does not fall and fits
pub record Descends (b : List ℕ) (xs : List Offsets) (n : ℕ) : Type 0 where
  pub few : n ≤ 8
  pub short : rows b 0 ≤ 1_048_576
  pub chain : Chain b xs n (rows b 0)
  pub mounts : Mounts (followed b xs n) (rows b 0)

-- the levels lead from the root's rows down to the node's
pub record Climbed (b : List ℕ) (node : ℕ) (c : Levels) : Type 0 where
  pub here : c.bytes.now ≡ b
  pub down : Descends b c.offsets c.depth
  pub starts : Starts b node (followed b c.offsets c.depth)
