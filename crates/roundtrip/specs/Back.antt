-- An extract read back: when it can be, and what it then says. Assumes nothing.
use Rattle.std.specs.Prelude.{ℕ, ◌+◌, ◌≤◌, ◌<◌, ◌≡◌, Bool, true, List, length, get_or}
use Rattle.format.specs.Bytes.{table, chosen}
use Rattle.format.specs.Node.{rows}
use Rattle.format.specs.Verdict.{pack_limit, journal_verdict}
use Rattle.format.specs.Mask.{picked, mask_length, count}
use Rattle.format.specs.Kept.{columns, kept_part}
use Rattle.format.specs.Write.{extract}
use Rattle.format.specs.Refusal.{unrefused}
use Rattle.format.specs.Answer.{Call, refusal_of, extract_of}

-- numbers below n, as many at most
pub record Below (n : ℕ) (rs : List ℕ) : Type 0 where
  pub few : length rs ≤ n
  pub small : (k : ℕ) → k < length rs → get_or rs k 0 < n

-- numbers below n, rising: those that pass a test. What a mask picks, and what the kept rows of a node with n rows are
pub record Chosen (n : ℕ) (rs : List ℕ) : Type 0 where
  pub test : ℕ → Bool
  pub are : rs ≡ chosen test n

-- all rows of a node with n rows: what a mask of n true slots picks
abbrev pub all_rows : ℕ → List ℕ
all_rows n = table (λ k. k) n

-- an accepted journal and picked rows whose extract fits a pack: what a call that is not refused has
pub record Extracted (b rs : List ℕ) : Type 0 where
  pub accepted : journal_verdict b ≡ 0
  pub bytes : (k : ℕ) → get_or b k 0 < 256
  pub picked : Chosen (rows b 0) rs
  pub short : length (extract b rs) ≤ pack_limit

-- an extract read back, all its rows picked: it is accepted, it has the columns and the kept part that it was made from, and its extract is itself
pub record ReadBack (b rs : List ℕ) : Type 0 where
  pub accepted : journal_verdict (extract b rs) ≡ 0
  pub same_columns : columns (extract b rs) ≡ columns b
  pub as_many : rows (extract b rs) 0 ≡ length rs
  pub same_kept : kept_part (extract b rs) (all_rows (rows (extract b rs) 0)) ≡ kept_part b rs
  pub same_extract : extract (extract b rs) (all_rows (rows (extract b rs) 0)) ≡ extract b rs

-- call c is not refused, and call d takes its extract for a journal, under a mask of as many slots as that has rows, all of them picked
pub record Then (c d : Call) : Type 0 where
  pub done : refusal_of c ≡ unrefused
  pub bytes : (k : ℕ) → get_or c.journal k 0 < 256
  pub handed : d.journal ≡ extract_of c
  pub whole : mask_length d.mask ≡ count c.mask
  pub all_true : (j : ℕ) → j < mask_length d.mask → picked d.mask j ≡ true
