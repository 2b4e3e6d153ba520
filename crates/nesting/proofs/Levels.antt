-- The climb from a node to the one whose rows it keeps. Assumes nothing.
use Prim.Native.Nat.{ℕ, ◌<◌}
use mathlib.Core.List.{List}
use mathlib.Core.Path.{◌≡◌, refl, sym, ap, ◌∙◌}
use native.Mathlib.Omega.{arith}
use borrow.Author.Tests.{eqb-true}
use lib.Dec.{eqb}
use Rattle.format.specs.Node.{node_count, kind, rows, parent}
use Rattle.format.specs.Kept.{kept_rows}
use Rattle.format.specs.Accepted.{Sound, Shares}
use Rattle.format.proofs.Laws.{kept-root}
use Rattle.nesting.specs.Rows.{AtRoot, Level, Top}
use Rattle.nesting.proofs.Tree.{kept-shared}

pub level_all : (b : List ℕ) (node : ℕ) → node < node_count b → Level b node node
level_all b node h = record { inside = h; low = omega arith; over = λ f. absurd (f refl); same = λ root. refl; long = refl }

-- above the root is nothing
pub top-root : {b : List ℕ} {node i : ℕ} → Level b node i → i ≡ 0 → Top b node i
top-root l e = record { level = l; last = λ some. absurd (omega arith) }

pub level-root : {b : List ℕ} {node i : ℕ} → Level b node i → AtRoot b node (eqb i 0)
level-root {b} {node} {i} l =
    record {
      same = λ t root. sym (l.same root) ∙ ap (kept_rows b root) (eqb-true i 0 t) ∙ kept-root b root;
      long = λ t. sym l.long ∙ ap (rows b) (eqb-true i 0 t);
    }

module _ {b : List ℕ} (sound : Sound b) {node i : ℕ} (l : Level b node i) (some : 0 < i) where
  pub up : parent b i < i
  up = sound.shape.above i some

  pub few : i < 64
  few = omega (arith, sound.shape.few, l.inside)

  pub parent-in : parent b i < node_count b
  parent-in = omega (arith, up, l.inside)

  pub parent-few : parent b i < 64
  parent-few = omega (arith, up, few)

  pub to-parent : Shares (kind b (parent b i)) → Level b node (parent b i)
  to-parent s =
      record {
        inside = parent-in;
        low = omega (arith, up, l.low);
        over = λ _. s;
        same = λ root. sym (kept-shared b root i some s) ∙ l.same root;
        long = sym (sound.agree.same i some l.inside s) ∙ l.long;
      }
