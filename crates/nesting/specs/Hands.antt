-- What a node hands on to its children, by its kind. Assumes nothing.
use Rattle.std.specs.Prelude.{ℕ, Bool, true, false, ◌≡◌}
use Rattle.std.specs.Prelude as std
use Rattle.format.specs.declared.Kind.{Kind}
use Rattle.format.specs.declared.Kind.TheVariants as of
use Rattle.format.specs.Node.{kind}
use Rattle.format.specs.Accepted.{Shares, Nests}
use Rattle.nesting.specs.declared.Handing.{Handing}
use Rattle.nesting.specs.declared.Handing.TheVariants.{Rows, Runs, List, All}

-- a node of this kind hands on its own rows
abbrev pub shares : Kind → Bool
shares of.Struct = true
shares of.Union = true
shares _ = false

-- a node of this kind hands on neither its rows nor its runs nor child rows of its own
pub record Apart (k : Kind) : Type 0 where
  pub unshared : Shares k → ⊥
  pub no_runs : k ≡ of.Runs → ⊥
  pub no_list : (w : ℕ) → Nests w k → ⊥

-- what node i hands on: its rows, or as this runs node, or as this list, or all rows of each child
abbrev pub Hands : std.List ℕ → ℕ → Handing → Type 0
Hands b i Rows = Shares (kind b i)
Hands b i (Runs r) = (r.journal.now.bytes.now ≡ b) × (r.node ≡ i)
Hands b i (List l) = (l.journal.now.bytes.now ≡ b) × (l.node ≡ i)
Hands b i All = Apart (kind b i)
