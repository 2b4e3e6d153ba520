-- Arrays that are filled from the front; and open nodes in an array, innermost last, as a stack. Assumes nothing.
use Prim.Native.Nat.{ℕ, zero, suc, ◌+◌, ◌-◌, ◌≤◌, ◌<◌}
use mathlib.Core.List.{List, [], ◌∷◌}
use mathlib.Core.Logic.{⊎_elim}
use mathlib.Core.Path.{◌≡◌, refl, sym, ap, ◌∙◌}
use native.Mathlib.Nat.{eq-or-lt_of_le}
use native.Mathlib.Numerals.{add-one}
use native.Mathlib.Omega.{arith}
use lib.ListN.{length, get_or, set}
use lib.Seq.{get_or-set_same, get_or-set_other}
use Rattle.format.specs.Node.{Ancestor, ancestor, closed, one_less, ancestors, kids}
use Rattle.pack.specs.declared.open_nodes.OpenNode.{OpenNode}
use Rattle.pack.specs.Tree.{Holds, no_node, ancestors_in}

-- an array that is filled from the front
pub holds-none : (f : ℕ → ℕ) (xs : List ℕ) → Holds f 0 xs
holds-none f xs = record { at = λ i h. absurd (omega arith) }

pub holds_more : {f : ℕ → ℕ} {i : ℕ} {xs : List ℕ} → Holds f i xs → i < length xs → {v : ℕ} → v ≡ f i → Holds f (i + 1) (set xs i v)
holds_more {f = f} {i = i} {xs = xs} s h {v = v} e =
    record { at = λ k l. ⊎_elim (last k) (other k) (eq-or-lt_of_le (below k l)) }
  where
    below : (k : ℕ) → k < i + 1 → k ≤ i
    below k l = omega arith

    last : (k : ℕ) → k ≡ i → get_or (set xs i v) k 0 ≡ f k
    last k q = rw q (get_or-set_same xs i v 0 h ∙ e)

    other : (k : ℕ) → k < i → get_or (set xs i v) k 0 ≡ f k
    other k l = get_or-set_other xs i k v 0 (λ q. omega arith) ∙ s.at k l

-- as many as were counted
pub length-in : (d : ℕ) (xs : List OpenNode) → length (ancestors_in d xs) ≡ d
unfolding ancestors_in
length-in zero xs = refl
length-in (suc d) xs = ap suc (length-in d xs)

-- what is written at d or later does not matter
pub in-aside : (d j : ℕ) (v : OpenNode) (xs : List OpenNode) → d ≤ j → ancestors_in d (set xs j v) ≡ ancestors_in d xs
unfolding ancestors_in
in-aside zero j v xs h = refl
in-aside (suc d) j v xs h = rw (get_or-set_other xs j d v no_node (λ e. omega arith), in-aside d j v xs (omega arith))

pub in-push : (d : ℕ) (v : OpenNode) (xs : List OpenNode) → d < length xs → ancestors_in (d + 1) (set xs d v) ≡ ancestor v.node v.left ∷ ancestors_in d xs
unfolding ancestors_in
in-push d v xs h = rw (add-one d, get_or-set_same xs d v no_node h, in-aside d d v xs (omega arith))

less-is : (n k : ℕ) (s : List Ancestor) → one_less (ancestor n k ∷ s) ≡ ancestor n (k - 1) ∷ s
unfolding one_less
less-is n zero s = refl
less-is n (suc k) s = ap (λ (j : ℕ). ancestor n j ∷ s) (omega arith)

stays : (n k : ℕ) (s : List Ancestor) → (k ≡ 0 → ⊥) → closed (ancestor n k ∷ s) ≡ ancestor n k ∷ s
unfolding closed
stays n zero s u = absurd (u refl)
stays n (suc k) s u = refl

-- the innermost stands first
top : (d : ℕ) (xs : List OpenNode) → 0 < d → ancestors_in d xs ≡ ancestor (get_or xs (d - 1) no_node).node (get_or xs (d - 1) no_node).left ∷ ancestors_in (d - 1) xs
unfolding ancestors_in
top zero xs some = absurd (omega arith)
top (suc d) xs some = let e : suc d - 1 ≡ d = omega arith in rw e

module _ (d : ℕ) (xs : List OpenNode) (some : 0 < d) where
  pub in-top : ancestors_in d xs ≡ ancestor (get_or xs (d - 1) no_node).node (get_or xs (d - 1) no_node).left ∷ ancestors_in (d - 1) xs
  in-top = top d xs some

  -- one child less to come for the innermost
  pub in-less : d ≤ length xs → {k : ℕ} → k ≡ (get_or xs (d - 1) no_node).left - 1
      → ancestors_in d (set xs (d - 1) (record { node = (get_or xs (d - 1) no_node).node; left = k })) ≡ one_less (ancestors_in d xs)
  in-less fits {k} e =
      let v : OpenNode = record { node = (get_or xs (d - 1) no_node).node; left = k } in
      let same : get_or (set xs (d - 1) v) (d - 1) no_node ≡ v = get_or-set_same xs (d - 1) v no_node (omega arith) in
      top d (set xs (d - 1) v) some ∙ rw (same, in-aside (d - 1) (d - 1) v xs (omega arith), e, in-top) (sym (less-is _ _ _))

  -- the innermost has no child to come, or has one
  pub in-closed : (get_or xs (d - 1) no_node).left ≡ 0 → closed (ancestors_in (d - 1) xs) ≡ closed (ancestors_in d xs)
  unfolding closed
  in-closed e = sym (ap closed in-top ∙ rw e)

  pub in-open : ((get_or xs (d - 1) no_node).left ≡ 0 → ⊥) → ancestors_in d xs ≡ closed (ancestors_in d xs)
  in-open u = sym (ap closed in-top ∙ stays _ _ _ u ∙ sym in-top)

pub in-none : (d : ℕ) (xs : List OpenNode) → d ≤ 0 → ancestors_in d xs ≡ []
unfolding ancestors_in
in-none zero xs h = refl
in-none (suc d) xs h = absurd (omega arith)

-- the open nodes before node i, of which there are at most i, and before the next
length-less : (s : List Ancestor) → length (one_less s) ≡ length s
unfolding one_less
length-less [] = refl
length-less (ancestor n zero ∷ s) = refl
length-less (ancestor n (suc k) ∷ s) = refl

length-closed : (s : List Ancestor) → length (closed s) ≤ length s
unfolding closed
length-closed [] = omega arith
length-closed (ancestor n zero ∷ s) = omega (arith, length-closed s)
length-closed (ancestor n (suc k) ∷ s) = omega arith

length-open : (b : List ℕ) (i : ℕ) → length (ancestors b i) ≤ i
unfolding ancestors
length-open b zero = omega arith
length-open b (suc i) =
    omega (arith, length-closed (ancestor i (kids b i) ∷ one_less (ancestors b i)), length-less (ancestors b i), length-open b i)

pub room : (b : List ℕ) (i : ℕ) {s t : List Ancestor} → s ≡ ancestors b i → t ≡ one_less s → i < 64 → length t < 64
room b i e f l = rw (f, e) (omega (arith, length-less (ancestors b i), length-open b i))

pub opened-on : (b : List ℕ) (i : ℕ) {s t u v : List Ancestor} {k : ℕ} → s ≡ ancestors b i → t ≡ one_less s → k ≡ kids b i → u ≡ ancestor i k ∷ t → v ≡ closed u
    → v ≡ ancestors b (i + 1)
unfolding ancestors
opened-on b i e f k g h = rw (add-one i, h, g, k, f, e)
