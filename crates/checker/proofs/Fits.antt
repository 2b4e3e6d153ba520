-- Refusal 4: a node's fields against its kind's row of the table of kinds. Assumes nothing.
use Prim.Native.Nat.{ℕ}
use mathlib.Core.Bool.{Bool, true, not, ◌||◌, or_assoc, or-false}
use mathlib.Core.List.{List, [], ◌∷◌}
use mathlib.Core.Path.{◌≡◌, sym, ap, ◌∙◌}
use lib.Dec.{eqb}
use Rattle.format.specs.declared.Kind.{Kind}
use Rattle.format.specs.declared.Kind.TheVariants.{Unknown}
use Rattle.format.specs.Node.{carries_counts, no_bitmap, kind_of, kind, has_no_bitmap}
use Rattle.format.specs.Verdict.{layout, one_of, misused, bad_fields}
use Rattle.pack.specs.declared.Node.{Node}
use Rattle.pack.specs.Read.{node_of}

-- the kind of a node that was read
pub kind-read : (b : List ℕ) (i : ℕ) {n : Node} → n ≡ node_of b i → kind b i ≡ kind_of n.kind
unfolding kind
kind-read b i read = ap (λ (m : Node). kind_of m.kind) (sym read)

module _ (b : List ℕ) (i : ℕ) {n : Node} {k : Kind} (read : n ≡ node_of b i) (known : k ≡ kind_of n.kind) where
  kind-is : {K : Kind} → k ≡ K → kind b i ≡ K
  kind-is e = kind-read b i read ∙ sym known ∙ e

  pub row_is : {K : Kind} → k ≡ K → {p c r u : Bool} → u ≡ carries_counts b → p ≡ (layout K).params n.param → c ≡ (layout K).children n.kids
      → r ≡ (not p || not c || not ((layout K).bitmap || eqb n.validity_at no_bitmap) || misused (layout K).first n.first_at
      || misused (layout K).second n.second_at || misused (layout K).data_length n.second_length || misused u n.last_field)
      → r ≡ bad_fields (layout (kind b i)) b i
  unfolding bad_fields has_no_bitmap
  row_is e eu ep ec er = er ∙ rw (kind-is e, eu, ep, ec, read)

  pub no_kind : k ≡ Unknown → true ≡ bad_fields (layout (kind b i)) b i
  unfolding bad_fields one_of
  no_kind e = rw (kind-is e)

-- the params of runs, dictionaries and native values, as the code lists them
pub three : (n a b c : ℕ) → (eqb n a || eqb n b || eqb n c) ≡ one_of (a ∷ b ∷ c ∷ []) n
unfolding one_of
three n a b c = simp (or_assoc, or-false)

pub four : (n a b c d : ℕ) → (eqb n a || eqb n b || eqb n c || eqb n d) ≡ one_of (a ∷ b ∷ c ∷ d ∷ []) n
unfolding one_of
four n a b c d = simp (or_assoc, or-false)

pub six : (n a b c d e f : ℕ) → (eqb n a || eqb n b || eqb n c || eqb n d || eqb n e || eqb n f) ≡ one_of (a ∷ b ∷ c ∷ d ∷ e ∷ f ∷ []) n
unfolding one_of
six n a b c d e f = simp (or_assoc, or-false)
