-- A node's kept own bytes and their sizes are what the writers write, as the kept part names them, and how much there is of them. Assumes nothing.
use Rattle.std.proofs.Common.{◌≡◌, ℕ, zero, suc, ◌+◌, ◌*◌, ◌≤◌, Bool, true, false, cond, List, [], ◌∷◌, ◌++◌, map, length, sym, refl, ap, ◌∙◌, ap₂, append-nil, le_refl, add-zero, mul-add, arith}
use mathlib.Core.List.{map_congr_left}
use Rattle.format.specs.Bytes.{join, chosen, le, to_le}
use Rattle.format.specs.Node.{first_at, second_at, skip, first_number}
use Rattle.format.specs.Kept.{own_bytes}
use Rattle.format.specs.Write.{numbers}
use Rattle.format.proofs.Numbers.{length-bytes, numbers-cons}
use Rattle.append.specs.Cells.{Among}
use Rattle.append.proofs.CellLaws.{among-others}
use Rattle.texts.specs.Texts.{offset, start_in, size, sizes_of, text, texts_of, ends_from, total_of, Texts}
use Rattle.texts.proofs.TextLaws.{total-none, total-cons, total-append, sizes-append, text-fits, Rises}

-- ---- the cells of node i, with the skip in the place of row 0

module _ (w : ℕ) (b : List ℕ) (i : ℕ) where
  pub first-offset : (r : ℕ) → offset w b (first_at b i + w * skip b i) r ≡ first_number w b i r
  unfolding offset first_number
  first-offset r = ap (le w b) (omega (arith, mul-add w (skip b i) r))

  -- bytes are entries of 1 byte
  first-start : (r : ℕ) → start_in 1 w b (first_at b i + w * skip b i) r ≡ first_number w b i r
  unfolding start_in
  first-start r = omega (arith, first-offset r)

  own-text : (r : ℕ) → text (start_in 1 w b (first_at b i + w * skip b i)) b (second_at b i) r ≡ own_bytes w b i r
  unfolding text size own_bytes
  own-text r = rw (first-start r, first-start (suc r))

  pub own-texts : (rs : List ℕ) → texts_of (start_in 1 w b (first_at b i + w * skip b i)) b (second_at b i) rs ≡ join (map (own_bytes w b i) rs)
  unfolding texts_of
  own-texts rs = ap join (map_congr_left {l = rs} (λ r _. own-text r))

-- ---- how much there is

-- each row's own bytes are as many as its size says
module _ (w : ℕ) (b : List ℕ) (first start : ℕ) where
  length-text : (r : ℕ) (rs : List ℕ) → Among (Texts 1 w b first start) (r ∷ rs) → length (text (start_in 1 w b first) b start r) ≡ size (offset w b first) r
  unfolding text size start_in
  length-text r rs h = length-bytes b (start + start_in 1 w b first r) (size (start_in 1 w b first) r) (text-fits h refl) ∙ omega arith

  text-sizes : (rs : List ℕ) → Among (Texts 1 w b first start) rs → map length (map (text (start_in 1 w b first) b start) rs) ≡ sizes_of (offset w b first) rs
  unfolding sizes_of
  text-sizes [] h = refl
  text-sizes (r ∷ rs) h = ap₂ ◌∷◌ (length-text r rs h) (text-sizes rs (among-others h refl))

-- the sizes of the kept bytes of node i
pub own-sizes : (w : ℕ) (b : List ℕ) (i : ℕ) (rs : List ℕ) → Among (Texts 1 w b (first_at b i + w * skip b i) (second_at b i)) rs
    → map length (map (own_bytes w b i) rs) ≡ sizes_of (offset w b (first_at b i + w * skip b i)) rs
own-sizes w b i rs h = ap (map length) (sym (map_congr_left {l = rs} (λ r _. own-text w b i r))) ∙ text-sizes w b _ _ rs h

size-last : (o : ℕ → ℕ) (xs : List ℕ) (n : ℕ) → total_of (sizes_of o (xs ++ (n ∷ []))) ≡ total_of (sizes_of o xs) + size o n
unfolding sizes_of
size-last o xs n =
    ap total_of (sizes-append o xs (n ∷ []))
    ∙ total-append (sizes_of o xs) (size o n ∷ [])
    ∙ ap (total_of (sizes_of o xs) +◌) (total-cons (size o n) [] ∙ ap (size o n +◌) total-none ∙ add-zero (size o n))

-- the sizes of rows chosen among the first n add up to no more than lies between the first offset and the last
pub total-chosen : (o : ℕ → ℕ) (p : ℕ → Bool) (n : ℕ) → Rises o n → o 0 + total_of (sizes_of o (chosen p n)) ≤ o n
unfolding chosen sizes_of size
total-chosen o p zero up = rw (total-none, add-zero) (le_refl (o 0))
total-chosen o p (suc n) up = go (p n) (total-chosen o p n (record { next = λ r l. up.next r (omega arith) }))
  where
    go : (t : Bool) → o 0 + total_of (sizes_of o (chosen p n)) ≤ o n → o 0 + total_of (sizes_of o (chosen p n ++ cond t (n ∷ []) [])) ≤ o (suc n)
    go true ih = omega (arith, up.next n (le_refl (suc n)), size-last o (chosen p n) n)
    go false ih = rw append-nil (omega (arith, up.next n (le_refl (suc n))))

-- ---- run ends, run by run

pub ends_more : (w s n : ℕ) (ns : List ℕ) → numbers w (ends_from s (n ∷ ns)) ≡ to_le w (s + n) ++ numbers w (ends_from (s + n) ns)
unfolding ends_from
ends_more w s n ns = numbers-cons w (s + n) (ends_from (s + n) ns)
