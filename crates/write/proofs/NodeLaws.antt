-- One node more: the body and the fields follow `written`, and there is room for the node's buffers. Assumes nothing.
use Prim.Native.Nat.{ℕ, zero, suc, ◌+◌, ◌*◌, ◌≤◌, ◌<◌}
use mathlib.Core.Path.{◌≡◌, refl, sym, ap, ap₂, ◌∙◌}
use mathlib.Core.List.{List, ◌++◌}
use mathlib.Core.Logic.{◌⊎◌, inl, inr}
use native.Mathlib.Nat.{eq-or-lt_of_le, le_refl}
use native.Mathlib.Omega.{arith}
use lib.ListN.{length, get_or, take, drop, length-append}
use lib.Seq.{take_at, length-take-le}
use Rattle.format.specs.Bytes.{join, raised}
use Rattle.format.specs.Node.{node_count}
use Rattle.format.specs.Put.{put}
use Rattle.format.specs.Kept.{Column, columns, KeptNode, kept_node, kept_part, kept_rows}
use Rattle.format.specs.Write.{numbers, written, extract, no_column, no_node}
use Rattle.format.proofs.Laws.{get_or-table, kept_at}
use Rattle.format.proofs.Numbers.{numbers-append}
use Rattle.format.proofs.Put.{put-parts, length-put, none, then, named}
use Rattle.format.proofs.Measure.{length-extract}
use Rattle.nodes.specs.Body.{node_body, node_fields}
use Rattle.nodes.proofs.BodyLaws.{body_more, fields-more}
use Rattle.body.specs.Written.{column_of, Written}
use Rattle.write.specs.Nodes.{NodesTo}

-- ---- fields

length_fields : (at : ℕ) (c : Column) (k : KeptNode) → length (node_fields at c k) ≡ 10
unfolding node_fields
length_fields at c k = refl

-- the fields up to and with those put behind them
fields-put : (fs ten : List ℕ) (i : ℕ) → length ten ≡ 10 → 10 * i + 10 ≤ length fs → take (10 * suc i) (put fs (10 * i) ten) ≡ take (10 * i) fs ++ ten
fields-put fs ten i h fit =
    let front : length (take (10 * i) fs) ≡ 10 * i = length-take-le (10 * i) fs (omega arith) in
    let both : length (take (10 * i) fs ++ ten) ≡ 10 * suc i = length-append (take (10 * i) fs) ten ∙ omega arith in
    ap (take (10 * suc i)) (put-parts fs (10 * i) ten (omega arith))
    ∙ take_at (take (10 * i) fs ++ ten) (drop (10 * i + length ten) fs) (10 * suc i) both

-- ---- the body's length never falls

module _ (cs : List Column) (ks : List KeptNode) where
  grows : (n : ℕ) → length (written cs ks n).body + length (node_body (length (written cs ks n).body) (get_or ks n no_node)) ≡ length (written cs ks (suc n)).body
  grows n = sym (ap length (body_more cs ks n) ∙ length-append (written cs ks n).body _)

  pub rises : (n m : ℕ) → n ≤ m → length (written cs ks n).body ≤ length (written cs ks m).body
  rises n zero h = let e : n ≡ 0 = omega arith in rw e (le_refl _)
  rises n (suc m) h = go (rises n m) (eq-or-lt_of_le h)
    where
      go : (n ≤ m → length (written cs ks n).body ≤ length (written cs ks m).body) → (n ≡ suc m) ⊎ (n < suc m) → length (written cs ks n).body ≤ length (written cs ks (suc m)).body
      go ih (inl e) = rw e (le_refl _)
      go ih (inr l) = omega (arith, ih (omega arith), grows m)

-- ---- node i

column-at : (b : List ℕ) (i : ℕ) → i < node_count b → get_or (columns b) i no_column ≡ column_of b i
unfolding columns
column-at b i l = get_or-table _ (node_count b) i no_column l

module _ (b root : List ℕ) where
  body-size : (i at : ℕ) → i < node_count b → at ≡ length (written (columns b) (kept_part b root) i).body
      → at + length (node_body at (kept_node b i (kept_rows b root i))) ≡ length (written (columns b) (kept_part b root) (suc i)).body
  body-size i at l e = rw (e, ← kept_at b root i no_node l) (grows (columns b) (kept_part b root) i)

  -- the body of the first nodes ends in the extract
  pub body-inside : (i : ℕ) → i ≤ node_count b → length (written (columns b) (kept_part b root) i).body ≤ length (extract b root)
  unfolding raised
  body-inside i l = omega (arith, rises (columns b) (kept_part b root) i (node_count b) l, length-extract b root)

-- nothing is written yet
pub nodes-none : {b root old : List ℕ} {at : ℕ} {fields : List ℕ} → at ≡ 0 → length fields ≡ 640 → NodesTo b root 0 old old at fields
unfolding written numbers join
nodes-none e h = record { body = none refl e; nodes = refl; size = h }

module _ {b root : List ℕ} {i : ℕ} {old mid : List ℕ} {at : ℕ} {fields : List ℕ} (h : NodesTo b root i old mid at fields) where
  ends_at : at ≡ length (written (columns b) (kept_part b root) i).body
  ends_at = omega (arith, h.body.place)

  -- there is room for the buffers of node i
  pub node-room : {room : ℕ} → i < node_count b → length (extract b root) ≤ room → at + length (node_body at (kept_node b i (kept_rows b root i))) ≤ room
  node-room l fit = omega (arith, body-size b root i at l ends_at, body-inside b root (suc i) l)

  pub nodes-more : {new : List ℕ} {next : ℕ} {after : List ℕ} → i < node_count b → node_count b ≤ 64
      → Written (column_of b i) (kept_node b i (kept_rows b root i)) i mid at new next fields after → NodesTo b root (suc i) old new next after
  nodes-more l few w =
      let ten = node_fields at (column_of b i) (kept_node b i (kept_rows b root i)) in
      record {
        body = named (then h.body w.body) (rw (ends_at, ← kept_at b root i no_node l) (sym (body_more (columns b) (kept_part b root) i)));
        nodes =
            ap (λ (fs : List ℕ). numbers 4 (take (10 * suc i) fs)) w.nodes
            ∙ ap (numbers 4) (fields-put fields ten i (length_fields _ _ _) (omega (arith, h.size)))
            ∙ numbers-append 4 (take (10 * i) fields) ten
            ∙ ap₂ ◌++◌ h.nodes (rw (ends_at, ← column-at b i l, ← kept_at b root i no_node l))
            ∙ sym (fields-more (columns b) (kept_part b root) i);
        size = ap length w.nodes ∙ length-put fields (10 * i) ten ∙ h.size;
      }
