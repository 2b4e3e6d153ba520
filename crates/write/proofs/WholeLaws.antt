-- The whole extract: the body, the zeros behind it, the table and the trailer. Assumes nothing.
use Prim.Native.Nat.{ℕ, ◌+◌, ◌*◌, ◌≤◌}
use mathlib.Core.Path.{◌≡◌, sym, ap, ◌∙◌}
use mathlib.Core.List.{List, [], ◌∷◌, ◌++◌, append-nil}
use native.Mathlib.Omega.{arith}
use lib.ListN.{length, get_or, take, drop, length-map}
use lib.Seq.{drop-length}
use Rattle.format.specs.Bytes.{padded, raised, over}
use Rattle.format.specs.Node.{node_count, mark}
use Rattle.format.specs.Put.{Wrote}
use Rattle.format.specs.Kept.{columns, kept_node, kept_part, kept_rows, KeptNode}
use Rattle.format.specs.Write.{numbers, written, write, extract, no_node}
use Rattle.format.proofs.Laws.{kept_at}
use Rattle.format.proofs.Put.{then, named, same_size, wrote-front}
use Rattle.append.specs.Cells.{padding}
use Rattle.append.proofs.CellLaws.{padded-is}
use Rattle.format.proofs.Measure.{length-columns, length-extract}
use Rattle.buffers.proofs.PutLaws.{pad-ends}
use Rattle.write.specs.Nodes.{NodesTo}

-- an extract, said by the number of its nodes
joined : List ℕ → List ℕ → ℕ → List ℕ
joined b root n =
    let w = written (columns b) (kept_part b root) n in
    padded w.body
    ++ w.nodes
    ++ numbers 4 (raised (length w.body) ∷ n ∷ length (get_or (kept_part b root) 0 no_node).marks ∷ mark ∷ [])

module _ (b root : List ℕ) where
  by_count : joined b root (node_count b) ≡ extract b root
  unfolding joined extract write
  by_count = ap (joined b root) (sym (length-columns b))

  root-rows : 1 ≤ node_count b → length (get_or (kept_part b root) 0 no_node).marks ≡ length (kept_rows b root 0)
  unfolding kept_node
  root-rows some = ap (λ (k : KeptNode). length k.marks) (kept_at b root 0 no_node some) ∙ length-map (kept_rows b root 0) _

  -- the parts one after another, as they are written
  parts : {start n kept : ℕ} → 1 ≤ node_count b → start ≡ raised (length (written (columns b) (kept_part b root) (node_count b)).body) → n ≡ node_count b → kept ≡ length (kept_rows b root 0)
      → (written (columns b) (kept_part b root) (node_count b)).body
      ++ padding (length (written (columns b) (kept_part b root) (node_count b)).body)
      ++ (written (columns b) (kept_part b root) (node_count b)).nodes
      ++ numbers 4 (start ∷ n ∷ kept ∷ mark ∷ [])
      ≡ extract b root
  unfolding joined
  parts some es en ek = rw (es, en, ek, ← root-rows some, ← padded-is (written (columns b) (kept_part b root) (node_count b)).body) by_count

module _ {b root old first : List ℕ} {end : ℕ} {fields : List ℕ} (h : NodesTo b root (node_count b) old first end fields) (fit : length (extract b root) ≡ length old) where
  ends_at : end ≡ length (written (columns b) (kept_part b root) (node_count b)).body
  ends_at = omega (arith, h.body.place)

  size : raised end + 40 * node_count b + 16 ≡ length old
  size = rw ends_at (sym (length-extract b root) ∙ fit)

  pub pad-fits : end + length (padding end) ≤ length first
  pad-fits = omega (arith, pad-ends end, size, same_size h.body)

  module _ {second : List ℕ} {start : ℕ} (p : Wrote first end (padding end) second start) where
    starts-at : start ≡ raised end
    starts-at = p.place ∙ pad-ends end

    -- the table starts where a number of 4 bytes can say it
    pub start_fits : start ≤ length old
    start_fits = omega (arith, starts-at, size)

    pub table_fits : start + 40 * node_count b ≤ length second
    table_fits = omega (arith, starts-at, size, same_size p, same_size h.body)

    pub trailer-fits : {bs third : List ℕ} {after : ℕ} → Wrote second start bs third after → length bs ≤ 40 * node_count b → after + 16 ≤ length third
    trailer-fits q few = omega (arith, q.place, starts-at, size, same_size q, same_size p, same_size h.body)

    pub whole : {bs third last : List ℕ} {after next n kept : ℕ} → 1 ≤ node_count b → n ≡ node_count b → kept ≡ length (kept_rows b root 0)
        → Wrote second start bs third after → bs ≡ numbers 4 (take (10 * node_count b) fields) → Wrote third after (numbers 4 (start ∷ n ∷ kept ∷ mark ∷ [])) last next → last ≡ extract b root
    unfolding over
    whole some en ek q et r =
        let start_is : start ≡ raised (length (written (columns b) (kept_part b root) (node_count b)).body) = starts-at ∙ ap raised ends_at in
        let padded-body = named p (ap padding ends_at) in
        let all = named (then (then (then h.body padded-body) (named q (et ∙ h.nodes))) r) (parts b root some start_is en ek) in
        wrote-front all (omega (arith, fit)) ∙ ap (λ (i : ℕ). extract b root ++ drop i old) fit ∙ ap (extract b root ++◌) (drop-length old) ∙ append-nil (extract b root)
