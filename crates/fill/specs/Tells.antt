-- What tells the rows that a node keeps: the root's, a bitmap, or a count. Assumes nothing.
use Rattle.std.specs.Prelude.{ℕ, ◌≤◌, ◌<◌, List, ◌≡◌, length}
use Rattle.format.specs.Node.{node_count, rows}
use Rattle.format.specs.Kept.{kept_rows}
use Rattle.format.specs.Slots.{count_up}
use Rattle.nesting.specs.Rows.{picks_in}
use Rattle.fill.specs.declared.Teller.{Teller}
use Rattle.fill.specs.declared.Teller.TheVariants.{Root, Bitmap, Carried}

-- node i keeps the rows that the root keeps; node t keeps as many rows, all of its own or none
pub record AsRoot (b root : List ℕ) (i : ℕ) : Type 0 where
  pub same : kept_rows b root i ≡ root
  pub long : rows b i ≡ rows b 0

pub record AllOrNone (b root : List ℕ) (i t : ℕ) : Type 0 where
  pub inside : t < node_count b
  pub same : kept_rows b root t ≡ kept_rows b root i
  pub long : rows b t ≡ rows b i
  pub all : (length (kept_rows b root t) ≡ 0 → ⊥) → count_up (rows b t) 0 ≡ kept_rows b root t

abbrev pub Tells : List ℕ → List ℕ → ℕ → Teller → Type 0
Tells b root i Root = AsRoot b root i
Tells b root i (Bitmap source) = (picks_in source ≡ kept_rows b root i) × (source.bits.len ≡ rows b i)
Tells b root i (Carried t) = AllOrNone b root i t
