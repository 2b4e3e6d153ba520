-- How many rows a node keeps by its parent's kind. Assumes nothing.
use Prim.Native.Nat.{ℕ, ◌<◌, ◌≤◌}
use mathlib.Core.List.{List, [], ◌∷◌}
use mathlib.Core.Path.{◌≡◌, refl, sym, ap, ◌∙◌}
use native.Mathlib.Omega.{arith}
use lib.ListN.{length, get_or}
use Rattle.format.specs.Node.{node_count, kind, rows, parent}
use Rattle.format.specs.Kept.{kept_rows, carried}
use Rattle.format.specs.Accepted.{Shares}
use Rattle.format.proofs.Laws.{length-table, kept-root}
use Rattle.nesting.specs.Rows.{Ready, Counts}
use Rattle.nesting.specs.Hands.{Apart}
use Rattle.nesting.proofs.Arrays.{holds-less}
use Rattle.nesting.proofs.Handed.{carries}
use Rattle.nesting.proofs.Tree.{kept-shared, kept-carried}

-- with more nodes counted than are asked for
pub ready_at : {b root counts : List ℕ} {n k : ℕ} → Ready b root counts n → k ≤ n → Ready b root counts k
ready_at r h = record { sound = r.sound; rooted = r.rooted; counted = holds-less r.counted h }

-- the counts so far
pub ready_with : {b root cs counts : List ℕ} {n k : ℕ} → Ready b root cs n → Counts b root k counts → Ready b root counts k
ready_with r h = record { sound = r.sound; rooted = r.rooted; counted = h }

carried_none : (rs : List ℕ) (n : ℕ) → length rs ≡ 0 → 0 ≡ length (carried rs n)
unfolding carried
carried_none [] n e = refl
carried_none (r ∷ rs) n e = absurd (omega arith)

carried-every : (rs : List ℕ) (n : ℕ) → (length rs ≡ 0 → ⊥) → n ≡ length (carried rs n)
unfolding carried
carried-every [] n e = absurd (e refl)
carried-every (r ∷ rs) n e = sym (length-table (λ k. k) n)

-- the root's count stands first
pub counted-first : (b root counts : List ℕ) (kept : ℕ) → get_or counts 0 0 ≡ kept → kept ≡ length root → Counts b root 1 counts
counted-first b root counts kept e k =
    record { at = λ i l. let z : i ≡ 0 = omega arith in rw z (e ∙ k ∙ ap length (sym (kept-root b root))) }

module _ {b root counts : List ℕ} {node : ℕ} (ready : Ready b root counts node) (h : node < node_count b) (some : 0 < node) where
  pub above-lt : parent b node < node
  above-lt = ready.sound.shape.above node some

  pub above-few : parent b node < 64
  above-few = omega (arith, above-lt, ready.sound.shape.few)

  pub under-shared : Shares (kind b (parent b node)) → length (kept_rows b root (parent b node)) ≡ length (kept_rows b root node)
  under-shared s = ap length (sym (kept-shared b root node some s))

  -- under a node that carries its children
  module _ (a : Apart (kind b (parent b node))) where
    is_carried : carried (kept_rows b root (parent b node)) (rows b node) ≡ kept_rows b root node
    is_carried = sym (kept-carried b root node some (carries a (ready.sound.shape.inner node some h)))

    pub under-empty : length (kept_rows b root (parent b node)) ≡ 0 → 0 ≡ length (kept_rows b root node)
    under-empty e = carried_none (kept_rows b root (parent b node)) (rows b node) e ∙ ap length is_carried

    pub under-filled : (length (kept_rows b root (parent b node)) ≡ 0 → ⊥) → rows b node ≡ length (kept_rows b root node)
    under-filled e = carried-every (kept_rows b root (parent b node)) (rows b node) e ∙ ap length is_carried
