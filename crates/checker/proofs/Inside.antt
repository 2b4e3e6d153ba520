-- Refusal 8 on a node that was read: its buffers can be read, and the kernels' answers are the definition's. Assumes nothing.
use Prim.Native.Nat.{ℕ, ◌+◌, ◌*◌, ◌/◌, ◌^◌, ◌≤◌, ◌<◌}
use mathlib.Core.Bool.{Bool, true, false}
use mathlib.Core.List.{List, [], ◌∷◌}
use mathlib.Core.Path.{◌≡◌, sym, ap, ◌∙◌}
use native.Mathlib.Nat.{mul-add}
use native.Mathlib.Omega.{arith}
use borrow.Author.Tests.{eq-eqb, ne_eqb}
use lib.ListN.{length}
use Rattle.format.specs.declared.Kind.{Kind}
use Rattle.format.specs.declared.Kind.TheVariants.{Bytes32, Bytes64, Views, Lists32, Lists64, Runs, Union, Dictionary, Nested32, Nested64}
use Rattle.format.specs.Bytes.{any_below, bytes_for}
use Rattle.format.specs.Node.{table_start, node_count, no_bitmap, kind_of, kind, param, rows, skip, first_at, second_length, places, has_no_bitmap, child, data_buffer}
use Rattle.format.specs.Verdict.{one_of, first_size, second_size, bad_content}
use Rattle.content.specs.Numbers.{bad_offsets_at, bad_range_at, bad_key, bad_valid_key, bad_runs_at, bad_view_at, DataBuffers}
use Rattle.format.specs.Accepted.{DataBuffer}
use Rattle.format.proofs.Accepted.{params-right, places-few, bitmap-inside, first-inside, second-inside, data-buffers}
use Rattle.content.proofs.Nodes.{offsets-at, lists_at, runs-at, ids_at, keys-at, valid-keys-at, views-at, data-rows, data-skip, data-first}
use Rattle.pack.specs.declared.Node.{Node}
use Rattle.pack.specs.Read.{node_of}
use Rattle.checker.specs.Laid.{Laid}
use Rattle.checker.proofs.Fits.{kind-read}
use Rattle.checker.proofs.Sizes.{few-rows}

-- a node that was read, with its kind and its child's rows
pub record Looked (b : List ℕ) (i : ℕ) (n : Node) (k : Kind) (m : ℕ) : Type 0 where
  pub laid : Laid b
  pub inside : i < node_count b
  pub read : n ≡ node_of b i
  pub known : k ≡ kind_of n.kind
  pub under : m ≡ rows b (child i)

module _ {b : List ℕ} {i : ℕ} {n : Node} {k : Kind} {m : ℕ} (l : Looked b i n k m) where
  pub kind-is : {K : Kind} → k ≡ K → kind b i ≡ K
  kind-is e = kind-read b i l.read ∙ sym l.known ∙ e

  table-inside : table_start b ≤ length b
  table-inside = omega (arith, l.laid.whole)

  first-in : {K : Kind} → k ≡ K → n.first_at + first_size K n.param (n.skip + n.rows) m ≤ length b
  unfolding places
  first-in e = rw (l.read, l.under, ← kind-is e) (omega (arith, table-inside, first-inside b i l.inside l.laid.buffers))

  second-in : {K : Kind} → k ≡ K → n.second_at + second_size K (n.skip + n.rows) n.second_length ≤ length b
  unfolding places
  second-in e = rw (l.read, ← kind-is e) (omega (arith, table-inside, second-inside b i l.inside l.laid.buffers))

  pub read-few : n.skip + n.rows ≤ 1_048_576
  read-few = few-rows b i l.inside n l.read l.laid.rowed

  -- where each kind's numbers stand
  pub offsets32-in : k ≡ Bytes32 → n.first_at + 4 * n.skip + 4 * n.rows + 4 ≤ length b
  offsets32-in e = omega (arith, first-in e)

  pub offsets64-in : k ≡ Bytes64 → n.first_at + 8 * n.skip + 8 * n.rows + 8 ≤ length b
  offsets64-in e = omega (arith, first-in e)

  pub nested32-in : k ≡ Nested32 → n.first_at + 4 * n.skip + 4 * n.rows + 4 ≤ length b
  nested32-in e = omega (arith, first-in e)

  pub nested64-in : k ≡ Nested64 → n.first_at + 8 * n.skip + 8 * n.rows + 8 ≤ length b
  nested64-in e = omega (arith, first-in e)

  pub lists32-in : k ≡ Lists32 → (n.first_at + 4 * n.skip + 4 * n.rows ≤ length b) × (n.second_at + 4 * n.skip + 4 * n.rows ≤ length b)
  lists32-in e = (omega (arith, first-in e), omega (arith, second-in e))

  pub lists64-in : k ≡ Lists64 → (n.first_at + 8 * n.skip + 8 * n.rows ≤ length b) × (n.second_at + 8 * n.skip + 8 * n.rows ≤ length b)
  lists64-in e = (omega (arith, first-in e), omega (arith, second-in e))

  pub ids-in : k ≡ Union → n.first_at + n.skip + n.rows ≤ length b
  ids-in e = omega (arith, first-in e)

  -- data buffer j of views: few rows, which lie in the body
  module _ (e : k ≡ Views) (j : ℕ) (h : j < n.kids) where
    buffer : DataBuffer b i j
    buffer = data-buffers b l.laid.fields l.laid.tree i l.inside (kind-is e) j (omega (arith, ap (λ (x : Node). x.kids) l.read))

    buffer-few : skip b (data_buffer i j) + rows b (data_buffer i j) ≤ 1_048_576
    unfolding places
    buffer-few = places-few b (data_buffer i j) buffer.inside l.laid.rowed

    buffer-in : first_at b (data_buffer i j) + skip b (data_buffer i j) + rows b (data_buffer i j) ≤ table_start b
    unfolding places
    buffer-in = omega (arith, rw (buffer.plain, buffer.width) at (first-inside b (data_buffer i j) buffer.inside l.laid.buffers))

  pub views-in : k ≡ Views → (t : ℕ) → t ≡ table_start b → (n.first_at + 16 * n.skip + 16 * n.rows ≤ length b) × DataBuffers b n.kids (t + 40 * i + 48)
  views-in e t q = (
    omega (arith, first-in e),
    record {
      nodes = λ j h. omega (arith, l.laid.whole, (buffer e j h).inside);
      few = λ j h. rw (q, ← data-rows b i j) (omega (arith, buffer-few e j h));
      bytes = λ j h. rw (q, ← data-rows b i j, ← data-skip b i j, ← data-first b i j) (omega (arith, table-inside, buffer-in e j h));
    },
  )

  pub runs-in : k ≡ Runs → (one_of (2 ∷ 4 ∷ 8 ∷ []) n.param ≡ true) × (n.first_at + n.param * m ≤ length b)
  runs-in e = (rw l.read (rw (kind-is e) at (params-right b i l.inside l.laid.fields)), first-in e)

  -- the kernels' answers
  pub nothing_is : {K : Kind} → k ≡ K → bad_content K b i ≡ false → false ≡ bad_content (kind b i) b i
  nothing_is e f = rw (kind-is e) (sym f)

  pub offsets32-is : k ≡ Bytes32 → bad_offsets_at 4 b (n.first_at + 4 * n.skip) n.rows n.second_length ≡ bad_content (kind b i) b i
  unfolding bad_content
  offsets32-is e = rw (kind-is e, l.read) (offsets-at b i 4 (second_length b i))

  pub offsets64-is : k ≡ Bytes64 → bad_offsets_at 8 b (n.first_at + 8 * n.skip) n.rows n.second_length ≡ bad_content (kind b i) b i
  unfolding bad_content
  offsets64-is e = rw (kind-is e, l.read) (offsets-at b i 8 (second_length b i))

  pub nested32-is : k ≡ Nested32 → bad_offsets_at 4 b (n.first_at + 4 * n.skip) n.rows m ≡ bad_content (kind b i) b i
  unfolding bad_content
  nested32-is e = rw (kind-is e, l.read, l.under) (offsets-at b i 4 (rows b (child i)))

  pub nested64-is : k ≡ Nested64 → bad_offsets_at 8 b (n.first_at + 8 * n.skip) n.rows m ≡ bad_content (kind b i) b i
  unfolding bad_content
  nested64-is e = rw (kind-is e, l.read, l.under) (offsets-at b i 8 (rows b (child i)))

  pub lists32-is : k ≡ Lists32 → any_below (bad_range_at 4 b (n.first_at + 4 * n.skip) (n.second_at + 4 * n.skip) m) n.rows ≡ bad_content (kind b i) b i
  unfolding bad_content
  lists32-is e = rw (kind-is e, l.read, l.under) (lists_at b i 4 (rows b i))

  pub lists64-is : k ≡ Lists64 → any_below (bad_range_at 8 b (n.first_at + 8 * n.skip) (n.second_at + 8 * n.skip) m) n.rows ≡ bad_content (kind b i) b i
  unfolding bad_content
  lists64-is e = rw (kind-is e, l.read, l.under) (lists_at b i 8 (rows b i))

  pub views-is : k ≡ Views → (t : ℕ) → t ≡ table_start b → any_below (λ r. bad_view_at b n.kids (t + 40 * i + 48) (n.first_at + 16 * n.skip + 16 * r)) n.rows ≡ bad_content (kind b i) b i
  unfolding bad_content
  views-is e t q = rw (kind-is e, l.read, q) (views-at b i (rows b i))

  pub runs-is : k ≡ Runs → bad_runs_at n.param b n.first_at m (n.skip + n.rows) ≡ bad_content (kind b i) b i
  unfolding bad_content places
  runs-is e = rw (kind-is e, l.read, l.under) (runs-at b i)

  pub ids-is : k ≡ Union → any_below (bad_key 1 b (n.first_at + n.skip) n.kids) n.rows ≡ bad_content (kind b i) b i
  unfolding bad_content
  ids-is e = rw (kind-is e, l.read) (ids_at b i (rows b i))

  pub keys-is : k ≡ Dictionary → {r : Bool} → r ≡ bad_content Dictionary b i → r ≡ bad_content (kind b i) b i
  keys-is e q = rw (kind-is e) q

  -- a dictionary's keys: where they stand, and the kernels' answers without a bitmap and with one
  pub keys_in : k ≡ Dictionary → (one_of (1 ∷ 2 ∷ 4 ∷ 8 ∷ []) n.param ≡ true) × (n.first_at + n.param * n.skip + n.param * n.rows ≤ length b)
  keys_in e = (
    rw l.read (rw (kind-is e) at (params-right b i l.inside l.laid.fields)),
    omega (arith, first-in e, mul-add n.param n.skip n.rows),
  )

  pub has-bitmap : (n.validity_at ≡ no_bitmap → ⊥) → has_no_bitmap b i ≡ false
  unfolding has_no_bitmap
  has-bitmap h = ne_eqb _ _ (rw l.read at h)

  pub bits_in : (n.validity_at ≡ no_bitmap → ⊥) → (8 * n.validity_at + n.skip + n.rows ≤ 8 * length b) × (n.skip + n.rows < 2 ^ 63)
  unfolding places bytes_for
  bits_in h =
      let inside : n.validity_at + (n.skip + n.rows + 7) / 8 ≤ table_start b = rw l.read (bitmap-inside b i l.inside l.laid.buffers (has-bitmap h)) in
      (omega (arith, table-inside), omega (arith, read-few))

  pub keys-are : n.validity_at ≡ no_bitmap → any_below (bad_key n.param b (n.first_at + n.param * n.skip) m) n.rows ≡ bad_content Dictionary b i
  unfolding bad_content has_no_bitmap
  keys-are h = rw (l.under, l.read) (keys-at b i (param b i) (rows b (child i)) (rows b i) (eq-eqb _ _ (rw l.read at h)))

  pub valid-keys-are : (n.validity_at ≡ no_bitmap → ⊥)
      → any_below (bad_valid_key n.param b (n.first_at + n.param * n.skip) m n.validity_at n.skip) n.rows ≡ bad_content Dictionary b i
  unfolding bad_content
  valid-keys-are h = rw (l.under, l.read) (valid-keys-at b i (param b i) (rows b (child i)) (rows b i) (has-bitmap h))
