-- The order of the refusals: a mask is tried as a journal is, and then by its root. Assumes nothing.
use Prim.Native.Nat.{ℕ}
use mathlib.Core.Bool.{true, false}
use mathlib.Core.List.{List, [], ◌∷◌, ◌++◌}
use mathlib.Core.Path.{◌≡◌, refl, sym, ◌∙◌}
use Rattle.format.specs.Verdict.{wrong_root, Condition, condition, conditions, first_of, journal_verdict, mask_verdict}
use Rattle.format.proofs.Laws.{Accepted, accepted}

-- one that holds comes before all that follow
first-kept : (cs ds : List Condition) → (first_of cs ≡ 0 → ⊥) → first_of (cs ++ ds) ≡ first_of cs
unfolding first_of
first-kept [] ds h = absurd (h refl)
first-kept (condition n true ∷ cs) ds h = refl
first-kept (condition n false ∷ cs) ds h = first-kept cs ds h

module _ (b : List ℕ) (v : ℕ) (e : v ≡ journal_verdict b) where
  pub refused-first : (v ≡ 0 → ⊥) → v ≡ mask_verdict b
  unfolding journal_verdict mask_verdict
  refused-first h = e ∙ sym (first-kept (conditions b) (condition 9 (wrong_root b) ∷ []) (rw e at h))

  -- where none of the pack's own conditions holds, the root's is left
  root-last : v ≡ 0 → mask_verdict b ≡ first_of (condition 9 (wrong_root b) ∷ [])
  unfolding mask_verdict conditions first_of
  root-last h =
      let a : Accepted b = accepted b (sym e ∙ h) in
      rw (a.size, a.marked, a.tabled, a.fields, a.tree, a.rowed, a.buffers, a.content, a.nulls)

  pub root-refused : v ≡ 0 → wrong_root b ≡ true → 9 ≡ mask_verdict b
  unfolding first_of
  root-refused h t = sym (root-last h ∙ rw t)

  pub root-passed : v ≡ 0 → wrong_root b ≡ false → 0 ≡ mask_verdict b
  unfolding first_of
  root-passed h t = sym (root-last h ∙ rw t)
