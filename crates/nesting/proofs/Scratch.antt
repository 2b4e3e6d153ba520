-- The scratch needed, summed over the nodes. Assumes nothing.
use Prim.Native.Nat.{ℕ, ◌+◌, ◌≤◌, ◌<◌}
use mathlib.Core.Bool.{Bool, true, false, cond, ◌||◌}
use mathlib.Core.List.{List}
use mathlib.Core.Path.{◌≡◌, refl, sym, ap, ◌∙◌}
use native.Mathlib.Nat.{add-zero}
use native.Mathlib.Numerals.{add-one}
use native.Mathlib.Omega.{arith}
use borrow.Author.Tests.{eqb-true}
use lib.Dec.{eqb}
use Rattle.format.specs.Bytes.{bytes_for, sum_below}
use Rattle.format.specs.Node.{node_count, rows, of_kind, kind_of, kind, kind_number, child}
use Rattle.format.specs.Answer.{takes_scratch, scratch_needed}
use Rattle.format.specs.Accepted.{Sound, OneChild}
use Rattle.format.specs.Accepted as is
use Rattle.format.proofs.Laws.{sum_more}
use Rattle.format.proofs.Accepted.{kind-number}
use Rattle.nesting.proofs.ByKind.{rows-small}

-- what node k takes
abbrev pub share : List ℕ → ℕ → ℕ
share b k = cond (takes_scratch b k) (bytes_for (rows b (child k))) 0

pub scratch-none : (b : List ℕ) → 0 ≡ sum_below (share b) 0
unfolding sum_below
scratch-none b = refl

pub scratch-all : (b : List ℕ) (i n : ℕ) → n ≡ sum_below (share b) i → i ≡ node_count b → n ≡ scratch_needed b
unfolding scratch_needed
scratch-all b i n e h = e ∙ ap (sum_below (share b)) h

-- a node that takes some has one child
pub takes_one : (b : List ℕ) (i : ℕ) → takes_scratch b i ≡ true → OneChild (kind b i)
unfolding takes_scratch of_kind kind_of
takes_one b i e = go (eqb (kind_number b i) 9) refl (eqb (kind_number b i) 13) refl e
  where
    go : (u : Bool) → eqb (kind_number b i) 9 ≡ u → (v : Bool) → eqb (kind_number b i) 13 ≡ v → (u || v || eqb (kind_number b i) 14) ≡ true → OneChild (kind b i)
    go true p v q r = rw (kind-number b i 9 (eqb-true _ 9 p)) is.OneChild.runs
    go false p true q r = rw (kind-number b i 13 (eqb-true _ 13 q)) is.OneChild.nested32
    go false p false q r = rw (kind-number b i 14 (eqb-true _ 14 r)) is.OneChild.nested64

module _ {b : List ℕ} (s : Sound b) {i : ℕ} (h : i < node_count b) where
  module _ (e : takes_scratch b i ≡ true) where
    pub child-inside : i + 1 < node_count b
    child-inside = rw (add-one i) (s.shape.next i h (takes_one b i e))

    pub child-few : rows b (i + 1) ≤ 1_048_576
    child-few = rows-small s (i + 1) child-inside

    pub scratch-more : (n x : ℕ) → n ≡ sum_below (share b) i → x ≡ bytes_for (rows b (i + 1)) → n + x ≡ sum_below (share b) (i + 1)
    scratch-more n x en ex = rw (en, ex, sum_more (share b) i, e, add-one i)

  pub scratch-same : takes_scratch b i ≡ false → (n : ℕ) → n ≡ sum_below (share b) i → n ≡ sum_below (share b) (i + 1)
  scratch-same e n en = rw (en, sum_more (share b) i, e) (sym (add-zero (sum_below (share b) i)))

-- the share is small
pub bytes-few : (n : ℕ) → n ≤ 1_048_576 → bytes_for n ≤ 1_048_576
unfolding bytes_for
bytes-few n h = omega arith
