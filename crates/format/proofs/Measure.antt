-- How long an extract is, without its bytes: laws for the pass that measures before anything is written. Assumes nothing.
use Rattle.std.proofs.Common.{◌≡◌, ℕ, zero, suc, ◌+◌, ◌*◌, Bool, List, [], ◌∷◌, map, length, sym, refl, ap, ◌∙◌, mul-suc, arith, length-append}
use lib.ListN.{length-replicate}
use Rattle.format.specs.Bytes.{join, to_le, packed, bytes_for, padded, raised}
use Rattle.format.specs.Node.{node_count}
use Rattle.format.specs.Kept.{Column, columns, KeptNode, kept_part}
use Rattle.format.proofs.Laws.{length-table}
use Rattle.format.specs.Write.{Buffer, absent, holds, numbers, with, add_node, written, write, extract}
use Rattle.format.specs.Size.{grown_if, grown_by, grown_node, body_size, pack_size, buffer_size, node_size, node_size_at}

pub length-padded : (xs : List ℕ) → length (padded xs) ≡ raised (length xs)
unfolding padded raised
length-padded xs = simp (length-append, length-replicate) (omega arith)

pub length-packed : (bs : List Bool) → length (packed bs) ≡ bytes_for (length bs)
unfolding packed
length-packed bs = length-table _ (bytes_for (length bs))

pub length-to_le : (w n : ℕ) → length (to_le w n) ≡ w
unfolding to_le
length-to_le w n = length-table _ w

-- items of w bytes each
pub length-join : (w : ℕ) (f : ℕ → List ℕ) (ns : List ℕ) → ((n : ℕ) → length (f n) ≡ w) → length (join (map f ns)) ≡ w * length ns
unfolding join
length-join w f [] h = sym (native.Mathlib.Nat.mul-zero w)
length-join w f (n ∷ ns) h = simp (length-append, h n, length-join w f ns h, mul-suc) (omega arith)

pub length-numbers : (w : ℕ) (ns : List ℕ) → length (numbers w ns) ≡ w * length ns
unfolding numbers
length-numbers w ns = length-join w (to_le w) ns (length-to_le w)

-- the body's length after a buffer is added
abbrev pub grown : ℕ → Buffer → ℕ
grown n x = grown_by n (buffer_size x)

pub length-with : (body : List ℕ) (x : Buffer) → length (with body x) ≡ grown (length body) x
unfolding with grown_if buffer_size
length-with body absent = refl
length-with body (holds x) = simp (length-append, length-padded)

-- the table has 40 bytes for each node, the trailer 16
pub length-nodes : (cs : List Column) (ks : List KeptNode) (n : ℕ) → length (written cs ks n).nodes ≡ 40 * n
unfolding written add_node
length-nodes cs ks zero = refl
length-nodes cs ks (suc n) = simp (length-append, length-numbers, length-nodes cs ks n) (omega arith)

pub length-write : (cs : List Column) (ks : List KeptNode) → length (write cs ks) ≡ raised (length (written cs ks (length cs)).body) + 40 * length cs + 16
unfolding write
length-write cs ks = simp (length-append, length-padded, length-nodes, length-numbers) (omega arith)

-- ---- the same from the sizes of each node's buffers, over any columns and kept nodes

module _ (cs : List Column) (ks : List KeptNode) where
  -- one node more
  pub body-grows : (n : ℕ) → length (written cs ks (suc n)).body ≡ grown_node (length (written cs ks n).body) (node_size_at ks n)
  unfolding written add_node node_size
  body-grows n = simp length-with

  pub length-body : (n : ℕ) → length (written cs ks n).body ≡ body_size (node_size_at ks) n
  unfolding written body_size
  length-body zero = refl
  length-body (suc n) = body-grows n ∙ ap (λ (at : ℕ). grown_node at (node_size_at ks n)) (length-body n)

  pub write-size : length (write cs ks) ≡ pack_size (node_size_at ks) (length cs)
  unfolding pack_size
  write-size = length-write cs ks ∙ ap (λ (at : ℕ). raised at + 40 * length cs + 16) (length-body (length cs))

pub length-columns : (b : List ℕ) → length (columns b) ≡ node_count b
unfolding columns
length-columns b = length-table _ (node_count b)

-- an extract's: from its body, and from the sizes of what each node keeps
module _ (b root : List ℕ) where
  pub length-extract : length (extract b root) ≡ raised (length (written (columns b) (kept_part b root) (node_count b)).body) + 40 * node_count b + 16
  unfolding extract
  length-extract =
      length-write (columns b) (kept_part b root)
      ∙ ap (λ (n : ℕ). raised (length (written (columns b) (kept_part b root) n).body) + 40 * n + 16) (length-columns b)

  pub extract-size : length (extract b root) ≡ pack_size (node_size_at (kept_part b root)) (node_count b)
  unfolding extract
  extract-size = write-size (columns b) (kept_part b root) ∙ ap (pack_size (node_size_at (kept_part b root))) (length-columns b)
