-- How many child rows a list's chosen rows have, row by row. Assumes nothing.
use Prim.Native.Nat.{ℕ, ◌+◌}
use mathlib.Core.Bool.{Bool, true, false, cond}
use mathlib.Core.List.{List, [], ◌∷◌, ◌++◌, map, append-nil}
use mathlib.Core.Path.{◌≡◌, refl, sym, ap}
use native.Mathlib.Numerals.{add-one}
use lib.ListN.{length, length-append}
use Rattle.format.specs.Bytes.{join, chosen}
use Rattle.format.specs.Kept.{span_size, span, kept_spans}
use Rattle.format.proofs.Laws.{join-append}
use Rattle.format.proofs.SpanLaws.{length-span}

map_both : {A : Type 0} (f : ℕ → A) (xs ys : List ℕ) → map f (xs ++ ys) ≡ map f xs ++ map f ys
map_both f [] ys = refl
map_both f (x ∷ xs) ys = ap (f x ∷◌) (map_both f xs ys)

module _ (w : ℕ) (b : List ℕ) (p : ℕ) where
  -- how many child rows chosen rows have: one row more
  pub kept_spans-append : (xs ys : List ℕ) → kept_spans w b p (xs ++ ys) ≡ kept_spans w b p xs ++ kept_spans w b p ys
  unfolding kept_spans
  kept_spans-append xs ys = rw (map_both (span w b p) xs ys) (join-append (map (span w b p) xs) (map (span w b p) ys))

  one_span : (r : ℕ) (u : Bool) → cond u (span_size w b p r) 0 ≡ length (kept_spans w b p (cond u (r ∷ []) []))
  unfolding kept_spans join
  one_span r true = rw append-nil (sym (length-span w b p r))
  one_span r false = refl

  pub spans-more : (t : ℕ → Bool) (r : ℕ) {n d : ℕ} → n ≡ length (kept_spans w b p (chosen t r)) → d ≡ cond (t r) (span_size w b p r) 0
      → n + d ≡ length (kept_spans w b p (chosen t (r + 1)))
  unfolding chosen
  spans-more t r {n} {d} e f =
      rw (add-one r, kept_spans-append (chosen t r), length-append (kept_spans w b p (chosen t r)), e, f) (ap (length (kept_spans w b p (chosen t r)) +◌) (one_span r (t r)))
