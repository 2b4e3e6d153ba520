-- The body and the table grow node by node: what the loop over nodes follows. Assumes nothing.
use Prim.Native.Nat.{ℕ, suc}
use mathlib.Core.Path.{◌≡◌, refl, sym, ap, ap₂, ◌∙◌}
use mathlib.Core.List.{List, ◌++◌, append_assoc, append-nil}
use lib.ListN.{length, get_or, length-append}
use Rattle.format.specs.Bytes.{padded}
use Rattle.format.specs.Kept.{Column, KeptNode}
use Rattle.format.specs.Write.{Buffer, absent, holds, with, place, numbers, add_node, written, no_column, no_node}
use Rattle.append.specs.Cells.{zeros, padding}
use Rattle.buffers.specs.Place.{appended, ending, start_of}
use Rattle.nodes.specs.Body.{node_body, node_fields}

-- a buffer is added at the body's end
with-appended : (body : List ℕ) (x : Buffer) → with body x ≡ body ++ appended (length body) x
unfolding with appended padded padding zeros
with-appended body absent = sym (append-nil body)
with-appended body (holds x) = append_assoc body _ x

length-with : (body : List ℕ) (x : Buffer) → length (with body x) ≡ ending (length body) x
unfolding ending
length-with body x = ap length (with-appended body x) ∙ length-append body _

place-start : (rest : ℕ) (body : List ℕ) (x : Buffer) → place rest body x ≡ start_of rest (length body) x
unfolding place start_of
place-start rest body absent = refl
place-start rest body (holds x) = refl

three : (body : List ℕ) (m f s : Buffer)
    → with (with (with body m) f) s
    ≡ body ++ (appended (length body) m ++ (appended (ending (length body) m) f ++ appended (ending (ending (length body) m) f) s))
three body m f s =
    with-appended (with (with body m) f) s
    ∙ ap₂ ◌++◌ (with-appended (with body m) f ∙ ap₂ ◌++◌ (with-appended body m) (ap (λ (n : ℕ). appended n f) (length-with body m)))
    (ap (λ (n : ℕ). appended n s) (length-with (with body m) f ∙ ap (λ (n : ℕ). ending n f) (length-with body m)))
    ∙ simp append_assoc

module _ (cs : List Column) (ks : List KeptNode) (n : ℕ) where
  pub body_more : (written cs ks (suc n)).body ≡ (written cs ks n).body ++ node_body (length (written cs ks n).body) (get_or ks n no_node)
  unfolding written add_node node_body
  body_more = three (written cs ks n).body _ _ _

  pub fields-more : (written cs ks (suc n)).nodes ≡ (written cs ks n).nodes ++ numbers 4 (node_fields (length (written cs ks n).body) (get_or cs n no_column) (get_or ks n no_node))
  unfolding written add_node node_fields
  fields-more = simp (place-start, length-with)
