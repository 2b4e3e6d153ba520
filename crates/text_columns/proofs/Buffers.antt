-- The buffers of a node's kept own bytes are what the column filters write, with the node's skip in the place of row 0. Assumes nothing.
use Prim.Native.Nat.{ℕ, ◌+◌, ◌*◌}
use mathlib.Core.List.{List, map}
use mathlib.Core.Path.{◌≡◌, sym, ap}
use Rattle.format.specs.Kept.{own_bytes, texts}
use Rattle.format.specs.Node.{first_at, second_at, skip}
use Rattle.format.specs.Write.{holds, numbers, offsets, first, second}
use Rattle.append.specs.Cells.{Among}
use Rattle.texts.specs.Texts.{offset, start_in, sizes_of, texts_of, Texts}
use Rattle.texts.proofs.NodeLaws.{own-texts, own-sizes}

module _ (w : ℕ) (b : List ℕ) (i : ℕ) (rs : List ℕ) where
  -- own bytes, by `filter_texts`
  pub second-of-texts : second (texts w (map (own_bytes w b i) rs)) ≡ holds (texts_of (start_in 1 w b (first_at b i + w * skip b i)) b (second_at b i) rs)
  unfolding second
  second-of-texts = ap holds (sym (own-texts w b i rs))

  -- their offsets, by `filter_offsets`
  module _ (h : Among (Texts 1 w b (first_at b i + w * skip b i) (second_at b i)) rs) where
    pub first-of-texts : first (texts w (map (own_bytes w b i) rs)) ≡ holds (numbers w (offsets (sizes_of (offset w b (first_at b i + w * skip b i)) rs)))
    unfolding first
    first-of-texts = ap (λ (l : List ℕ). holds (numbers w (offsets l))) (own-sizes w b i rs h)
