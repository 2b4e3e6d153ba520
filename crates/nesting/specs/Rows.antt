-- The kept rows of a node as a test, the question whether some of them lie in a range, and arrays filled node by node. Assumes nothing.
use Rattle.std.specs.Prelude.{ℕ, zero, suc, ◌+◌, ◌-◌, ◌*◌, ◌≤◌, ◌<◌, min, Bool, true, false, cond, ◌&&◌, ◌||◌, Option, Some, None, List, [], ◌∷◌, ◌≡◌, length}
use Rattle.format.specs.Bytes.{chosen, within}
use Rattle.format.specs.declared.Kind.TheVariants.{Runs}
use Rattle.format.specs.Node.{node_count, kind, of_kind, validity_at, has_no_bitmap, rows, skip, run_start, parent}
use Rattle.format.specs.Accepted.{Sound, Shares, Nests}
use Rattle.slots.specs.declared.Bits.{Bits}
use Rattle.slots.specs.declared.Source.{Source}
use Rattle.slots.specs.Source.{slot_of}
use Rattle.pack.specs.Tree.{Holds}
use Rattle.format.specs.Kept.{kept_rows, passed_on}

-- some number of the list lies in [lo, hi)
unfoldable pub between : List ℕ → ℕ → ℕ → Bool
between [] lo hi = false
between (x ∷ xs) lo hi = within 0 lo hi x || between xs lo hi

-- the slots that a bit source picks, rising
abbrev pub picks_of : List ℕ → Bits → List ℕ
picks_of s b = chosen (slot_of s b) b.len

-- the slots that a source picks, rising
abbrev pub picks_in : Source → List ℕ
picks_in source = picks_of source.bytes.now source.bits

-- the list has exactly those numbers below n that it tells, rising
pub record Sifted (xs : List ℕ) (n : ℕ) : Type 0 where
  pub is : xs ≡ chosen (λ r. between xs r (suc r)) n

-- row r of node i is kept, where the root keeps the rows `root`
unfoldable pub keeps : List ℕ → List ℕ → ℕ → ℕ → Bool
keeps b root i r = between (kept_rows b root i) r (suc r)

-- row r of node p's one child, the node after it, is kept where node p keeps the rows rs
unfoldable pub hands_on : List ℕ → ℕ → List ℕ → ℕ → Bool
hands_on b p rs r = between (passed_on (kind b p) b p (suc p) rs) r (suc r)

-- of the first n nodes, how many rows each keeps
abbrev pub Counts : List ℕ → List ℕ → ℕ → List ℕ → Type 0
Counts b root = Holds (λ i. length (kept_rows b root i))

-- what is at hand while node n is measured: an accepted journal, rising row numbers of its root, and how many rows the nodes before n keep
pub record Ready (b root counts : List ℕ) (n : ℕ) : Type 0 where
  pub sound : Sound b
  pub rooted : Sifted root (rows b 0)
  pub counted : Counts b root n counts

-- node i is a runs node
abbrev pub HasRuns : List ℕ → ℕ → Type 0
HasRuns b i = kind b i ≡ Runs

-- node i is a runs node of an accepted journal
pub record AtRuns (b : List ℕ) (i : ℕ) : Type 0 where
  pub sound : Sound b
  pub inside : i < node_count b
  pub is_runs : kind b i ≡ Runs

-- node i is a list with offsets of w bytes, of an accepted journal
pub record AtList (b : List ℕ) (w i : ℕ) : Type 0 where
  pub sound : Sound b
  pub inside : i < node_count b
  pub is_list : Nests w (kind b i)

-- where the answer is true, the node keeps the root's rows, and has as many rows
pub record AtRoot (b : List ℕ) (node : ℕ) (t : Bool) : Type 0 where
  pub same : t ≡ true → (root : List ℕ) → kept_rows b root node ≡ root
  pub long : t ≡ true → rows b node ≡ rows b 0

-- a list with no bitmap; entries of a width, with no bitmap
unfoldable pub plain_list : List ℕ → ℕ → Bool
plain_list b i = (of_kind 13 b i || of_kind 14 b i) && has_no_bitmap b i

unfoldable pub plain_entries : List ℕ → ℕ → Bool
plain_entries b i = (of_kind 2 b i || of_kind 3 b i) && has_no_bitmap b i

-- node i is such entries under such a list, the node before it: they are copied by the list's own offsets, so no bitmap in scratch is made for them
unfoldable pub by_offsets : List ℕ → ℕ → Bool
by_offsets b zero = false
by_offsets b (suc p) = plain_list b p && plain_entries b (suc p)

-- node t, the node itself or a struct or union before it, keeps the node's rows, and has as many
pub record Level (b : List ℕ) (node t : ℕ) : Type 0 where
  pub inside : t < node_count b
  pub low : t ≤ node
  pub over : (t ≡ node → ⊥) → Shares (kind b t)
  pub same : (root : List ℕ) → kept_rows b root t ≡ kept_rows b root node
  pub long : rows b t ≡ rows b node

-- so it does, and no struct or union is above it
pub record Top (b : List ℕ) (node t : ℕ) : Type 0 where
  pub level : Level b node t
  pub last : 0 < t → Shares (kind b (parent b t)) → ⊥

-- where run j of runs node i starts among len slots: after skip, and not past the last. It ends where run j + 1 starts
unfoldable pub edge : List ℕ → ℕ → ℕ → ℕ → ℕ
edge b i len j = min (run_start b i j - skip b i) len

-- node i keeps the root's rows
pub record KeepsRoot (b : List ℕ) (i : ℕ) : Type 0 where
  pub same : (root : List ℕ) → kept_rows b root i ≡ root
