-- Refusal 5 by the places of the walk: tests of each number in a range, and each part by what the places hold. Assumes nothing.
use Prim.Native.Nat.{ℕ, suc, ◌-◌, ◌<◌}
use mathlib.Core.Bool.{Bool, true, false, not, ◌&&◌, ◌||◌}
use mathlib.Core.List.{List, [], ◌∷◌}
use mathlib.Core.Path.{◌≡◌, refl, sym, ap, subst, ◌∙◌}
use native.Mathlib.Omega.{arith}
use borrow.Author.Tests.{eq-eqb, ne_eqb}
use lib.Dec.{eqb, ltb}
use lib.ListN.{length, get_or, get_or-map}
use Rattle.std.specs.List.{list_any, range_with_len}
use denote.Enum.Bare.{sameb, same_true, same_false}
use Rattle.format.specs.contracts.Kind.{the_type}
use Rattle.format.specs.Node.{Ancestor, node_count, param, of_kind, has_no_bitmap, ancestors, parent, depth, kind, kind_of}
use Rattle.format.specs.Verdict.{any_node, any_child, empty, not_closed, bad_data_buffer, wrong_tree}
use Rattle.format.specs.declared.Kind.{Kind}
use Rattle.format.specs.declared.Kind.TheVariants.{Unknown}
use Rattle.format.proofs.Accepted.{kind-number, number-kind, number_of}
use Rattle.content.proofs.Fold.{any-ext}
use Rattle.pack.proofs.Ranges.{any-all, any-later}
use Rattle.pack.specs.declared.Node.{Node}
use Rattle.pack.specs.declared.Place.{Place}
use Rattle.pack.specs.declared.Walk.{Walk}
use Rattle.pack.specs.Read.{node_of}
use Rattle.pack.specs.Tree.{Walked}

-- ---- the parts

-- no open node: as many as none
none_open : (s : List Ancestor) → eqb (length s) 0 ≡ empty s
unfolding empty
none_open [] = refl
none_open (a ∷ s) = ne_eqb (length (a ∷ s)) 0 (λ e. omega arith)

one-deep : (s : List Ancestor) → eqb (suc (length s)) 1 ≡ empty s
unfolding empty
one-deep [] = refl
one-deep (a ∷ s) = ne_eqb (suc (length (a ∷ s))) 1 (λ e. omega arith)

module _ (b : List ℕ) (w : Walk) (walked : Walked b w) where
  place : ℕ → Place
  place i = get_or w.places i (record { parent = 0; depth = 0 })

  depth-at : (i : ℕ) → i < node_count b → (place i).depth ≡ depth b i
  unfolding place
  depth-at i l = sym (get_or-map (λ (p : Place). p.depth) w.places i (record { parent = 0; depth = 0 })) ∙ walked.deep.at i l

  pub parent-at : (i : ℕ) → i < node_count b → (get_or w.places i (record { parent = 0; depth = 0 })).parent ≡ parent b i
  parent-at i l = sym (get_or-map (λ (p : Place). p.parent) w.places i (record { parent = 0; depth = 0 })) ∙ walked.above.at i l

  root-at : (i : ℕ) → eqb (depth b i) 1 ≡ empty (ancestors b i)
  unfolding depth
  root-at i = one-deep (ancestors b i)

  -- a child by the parent that its place has
  data_at : ℕ → Bool
  data_at i = of_kind 6 b (place i).parent && not (of_kind 2 b i && eqb (param b i) 1 && has_no_bitmap b i)

  data-is : (i : ℕ) → i < node_count b → data_at i ≡ bad_data_buffer b i
  unfolding bad_data_buffer data_at place
  data-is i l = rw (parent-at i l)

  pub tree_is : (n : ℕ) → n ≡ node_count b → {early deep buffer : Bool}
      → early ≡ list_any (λ i. eqb (get_or w.places i (record { parent = 0; depth = 0 })).depth 1) (range_with_len 1 (n - 1))
      → deep ≡ list_any (λ i. ltb 8 (get_or w.places i (record { parent = 0; depth = 0 })).depth) (range_with_len 0 n)
      → buffer ≡ list_any (λ i. of_kind 6 b (get_or w.places i (record { parent = 0; depth = 0 })).parent && not (of_kind 2 b i && eqb (param b i) 1 && has_no_bitmap b i)) (range_with_len 1 (n - 1))
      → (early || not (eqb w.unclosed 0) || deep || buffer) ≡ wrong_tree b
  unfolding wrong_tree not_closed place data_at
  tree_is n e f d g =
      let f' : any_child b (λ i. eqb (place i).depth 1) ≡ any_child b (λ i. empty (ancestors b i)) =
      any-ext _ _ (node_count b) (λ i l. ap (ltb 0 i &&◌) (ap (λ (k : ℕ). eqb k 1) (depth-at i l) ∙ root-at i)) in
      let d' : any_node b (λ i. ltb 8 (place i).depth) ≡ any_node b (λ i. ltb 8 (depth b i)) =
      any-ext _ _ (node_count b) (λ i l. ap (ltb 8) (depth-at i l)) in
      let g' : any_child b data_at ≡ any_child b (bad_data_buffer b) =
      any-ext _ _ (node_count b) (λ i l. ap (ltb 0 i &&◌) (data-is i l)) in
      rw (f, d, g, e, any-later _ (node_count b), any-all _ (node_count b), any-later _ (node_count b), f', d', g', walked.rest, none_open)

-- a node's kind by the number that was read, and of a kind by number, or not
pub kind-read : (b : List ℕ) (i : ℕ) {n : Node} {k : Kind} → n ≡ node_of b i → k ≡ kind_of n.kind → kind b i ≡ k
unfolding kind
kind-read b i e f = sym (f ∙ ap (λ (m : Node). kind_of m.kind) e)

module _ (b : List ℕ) (i : ℕ) where
  pub kind-told : (k : Kind) → kind b i ≡ k → (k ≡ Unknown → ⊥) → of_kind (number_of k) b i ≡ true
  unfolding of_kind
  kind-told k e u = eq-eqb _ _ (number-kind b i k e u)

  pub kind_other : (n : ℕ) (k : Kind) → kind_of n ≡ k → (kind b i ≡ k → ⊥) → of_kind n b i ≡ false
  unfolding of_kind
  kind_other n k f u = ne_eqb _ _ (λ e. u (kind-number b i n e ∙ f))

  -- a kind that was read, compared with the kind of a number
  pub kind-is : (n : ℕ) (k : Kind) → kind_of n ≡ k → number_of k ≡ n → (k ≡ Unknown → ⊥) → {m : Kind} → kind b i ≡ m → sameb the_type m k ≡ of_kind n b i
  kind-is n k f g u {m} e = go (sameb the_type m k) refl
    where
      go : (t : Bool) → sameb the_type m k ≡ t → sameb the_type m k ≡ of_kind n b i
      go true p = p ∙ sym (subst (λ (x : ℕ). of_kind x b i ≡ true) g (kind-told k (e ∙ same_true the_type tt m k p) u))
      go false p = p ∙ sym (kind_other n k f (λ q. same_false the_type m k p (sym e ∙ q)))
