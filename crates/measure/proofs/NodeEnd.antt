-- What the measured numbers of a node make of the body's length. Assumes nothing.
use Prim.Native.Nat.{ℕ, suc, ◌+◌, ◌*◌, ◌≤◌, ◌<◌}
use mathlib.Core.List.{List, map}
use mathlib.Core.Path.{◌≡◌, refl, sym, ap, ◌∙◌}
use native.Mathlib.Numerals.{add-one}
use native.Mathlib.Omega.{arith}
use lib.ListN.{length, length-map}
use Rattle.format.specs.Bytes.{bytes_for, raised}
use Rattle.format.specs.declared.Kind.{Kind}
use Rattle.format.specs.declared.Kind.TheVariants.{Bits, Native, Fixed, Bytes32, Bytes64, Views, Lists32, Lists64, Runs, Struct, Union, Dictionary, Nested32, Nested64, Unknown}
use Rattle.format.specs.Node.{node_count, kind, param, rows, valid, parent}
use Rattle.format.specs.Verdict.{layout, first_size, second_size}
use Rattle.format.specs.Kept.{kept_rows, kept_runs, cells}
use Rattle.format.specs.Write.{any_null, bitmap, first, second, data_length, extract}
use Rattle.format.specs.Accepted as is
use Rattle.format.specs.Size.{grown_if}
use Rattle.format.proofs.Measure.{grown}
use Rattle.nesting.specs.Rows.{Ready, Sifted}
use Rattle.measure.specs.Size.{body_end}
use Rattle.nesting.proofs.Between.{length-sifted}
use Rattle.nesting.proofs.ByKind.{rows-small}
use Rattle.nesting.proofs.Tree.{kept-runs, kept-sifted}
use Rattle.measure.proofs.Sizes.{extract-length, body_more, bitmap-grows, first-grows, second-grows}

-- only runs look at the kept runs
runs-only : (k : Kind) (p n c d : ℕ) → (k ≡ Runs → c ≡ d) → first_size k p n c ≡ first_size k p n d
runs-only Bits p n c d f = refl
runs-only Native p n c d f = refl
runs-only Fixed p n c d f = refl
runs-only Bytes32 p n c d f = refl
runs-only Bytes64 p n c d f = refl
runs-only Views p n c d f = refl
runs-only Lists32 p n c d f = refl
runs-only Lists64 p n c d f = refl
runs-only Runs p n c d f = ap (p *◌) (f refl)
runs-only Struct p n c d f = refl
runs-only Union p n c d f = refl
runs-only Dictionary p n c d f = refl
runs-only Nested32 p n c d f = refl
runs-only Nested64 p n c d f = refl
runs-only Unknown p n c d f = refl

module _ {b root counts : List ℕ} {n : ℕ} (ready : Ready b root counts n) {i : ℕ} (h : i < node_count b) where
  kept-at : Sifted (kept_rows b root i) (rows b i)
  kept-at = kept-sifted b root ready.sound ready.rooted i h

  pub kept-few : length (kept_rows b root i) ≤ 1_048_576
  kept-few = omega (arith, length-sifted kept-at, rows-small ready.sound i h)

  pub param-few : param b i ≤ 1024
  param-few = (ready.sound.fields i h).narrow

  -- the runs that a runs node keeps are its child's rows
  module _ (e : kind b i ≡ Runs) where
    pub run-child : i + 1 < node_count b
    run-child = rw (add-one i) (ready.sound.shape.next i h (rw e is.OneChild.runs))

    runs-are : length (kept_rows b root (suc i)) ≡ length (kept_runs b i (kept_rows b root i))
    runs-are =
        let p : parent b (suc i) ≡ i = ready.sound.shape.under i h (rw e is.OneChild.runs) in
        ap length (rw p at (kept-runs b root (suc i) (omega arith) (rw p e)))

  -- the three buffers
  module _ {k q d : ℕ} (ek : k ≡ length (kept_rows b root i)) (eq : kind b i ≡ Runs → q ≡ length (kept_rows b root (suc i))) (ed : d ≡ data_length (cells (kind b i) b i (kept_rows b root i))) where
    bitmap-step : (at : ℕ) → grown_if at (any_null (map (valid b i) (kept_rows b root i))) (bytes_for k) ≡ grown at (bitmap (map (valid b i) (kept_rows b root i)))
    bitmap-step at =
        sym
        (bitmap-grows at (map (valid b i) (kept_rows b root i))
        ∙ ap (λ (n : ℕ). grown_if at (any_null (map (valid b i) (kept_rows b root i))) (bytes_for n)) (length-map (kept_rows b root i) (valid b i) ∙ sym ek))

    first_step : (at : ℕ) → grown_if at (layout (kind b i)).first (first_size (kind b i) (param b i) k q) ≡ grown at (first (cells (kind b i) b i (kept_rows b root i)))
    first_step at =
        ap (grown_if at (layout (kind b i)).first) (rw ek (runs-only (kind b i) (param b i) (length (kept_rows b root i)) _ _ (λ e. eq e ∙ runs-are e)))
        ∙ sym
        (first-grows b i (kept_rows b root i) kept-at at (rows b (suc i)) (kind b i) (ready.sound.fields i h).known
        (omega (arith, (ready.sound.in_body i h).first, ready.sound.shape.table)))

    second-step : (at : ℕ) → grown_if at (layout (kind b i)).second (second_size (kind b i) k d) ≡ grown at (second (cells (kind b i) b i (kept_rows b root i)))
    second-step at =
        rw (ek, ed)
        (sym
        (second-grows b i (kept_rows b root i) kept-at at (kind b i) (ready.sound.fields i h).known
        (omega (arith, (ready.sound.in_body i h).second, ready.sound.shape.table))))

    pub node_end : (at : ℕ) → at ≡ body_end b root i
        → grown_if
        (grown_if (grown_if at (any_null (map (valid b i) (kept_rows b root i))) (bytes_for k)) (layout (kind b i)).first (first_size (kind b i) (param b i) k q))
        (layout (kind b i)).second
        (second_size (kind b i) k d)
        ≡ body_end b root (suc i)
    node_end at e =
        rw (bitmap-step at, first_step (grown at (bitmap (map (valid b i) (kept_rows b root i)))), e) (second-step _ ∙ sym (body_more b root i h))

pub body-all : (b root : List ℕ) (i at : ℕ) → at ≡ body_end b root i → i ≡ node_count b → at ≡ body_end b root (node_count b)
body-all b root i at e h = e ∙ ap (λ (k : ℕ). body_end b root k) h

-- the whole extract
pub extract-is : (b root : List ℕ) {end r n : ℕ} → end ≡ body_end b root (node_count b) → r ≡ raised end → n ≡ node_count b → r + 40 * n + 16 ≡ length (extract b root)
extract-is b root ee er en = rw (er, ee, en) (sym (extract-length b root))
