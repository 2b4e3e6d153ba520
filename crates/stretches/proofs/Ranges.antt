-- What a loop over the runs of a node's kept rows may use: their rows are the kept rows, and each run lies among the node's. Assumes nothing.
use Prim.Native.Nat.{ℕ, zero, suc, ◌+◌, ◌-◌, ◌≤◌, ◌<◌}
use mathlib.Core.Bool.{Bool, true, false}
use mathlib.Core.List.{List, [], ◌∷◌}
use mathlib.Core.Path.{◌≡◌, refl, sym, ap, ◌∙◌}
use native.Mathlib.Nat.{sub-zero}
use native.Mathlib.Omega.{arith}
use borrow.Author.Tests.{eqb-true}
use lib.Dec.{eqb}
use lib.ListN.{length, length-append}
use Rattle.format.specs.Node.{node_count, rows}
use Rattle.format.specs.Slots.{runs_from, covered, count_up, joined, join_if}
use Rattle.format.specs.Kept.{kept_rows}
use Rattle.format.proofs.SlotLaws.{runs-picks, chosen-picks, length_up}
use Rattle.nesting.specs.declared.Counted.{Counted}
use Rattle.nesting.specs.Rows.{picks_in}
use Rattle.nesting.proofs.Between.{length-sifted}
use Rattle.nesting.proofs.Tree.{kept-all, kept-sifted}
use Rattle.spans.specs.Spans.{spans, Rises}
use Rattle.spans.proofs.Spanned.{spans-append, spans-run}
use Rattle.stretches.specs.Stretches.{bytes_in, kept_in}
use Rattle.stretches.specs.Kept.{runs_left, Begun}
use Rattle.stretches.specs.declared.kept.KeptRuns.{KeptRuns}

-- each run has a row, and ends by row n
pub data Among (n : ℕ) : List (ℕ × ℕ) → Type 0 where
  none : Among n []
  more : {r : ℕ × ℕ} {rs : List (ℕ × ℕ)} → r.0 < r.1 → r.1 ≤ n → Among n rs → Among n (r ∷ rs)

-- the first one, and the others
pub among-first : {n f e : ℕ} {rs xs : List (ℕ × ℕ)} → xs ≡ (f, e) ∷ rs → Among n xs → (f < e) × (e ≤ n)
among-first {n} {f} {e} {rs} q a = go (rw q at a)
  where
    go : Among n ((f, e) ∷ rs) → (f < e) × (e ≤ n)
    go (more a h g) = (a, h)

pub among_rest : {n : ℕ} {r : ℕ × ℕ} {rs xs : List (ℕ × ℕ)} → xs ≡ r ∷ rs → Among n xs → Among n rs
among_rest {n} {r} {rs} q a = go (rw q at a)
  where
    go : Among n (r ∷ rs) → Among n rs
    go (more a h g) = g

runs-among : (p : ℕ → Bool) (len n i : ℕ) → i + n ≤ len → Among len (runs_from p n i)
unfolding runs_from
runs-among p len zero i l = none
runs-among p len (suc n) i l = go (p i) (runs_from p n (suc i)) (runs-among p len n (suc i) (omega arith))
  where
    join : (t : Bool) (r : ℕ × ℕ) (rs : List (ℕ × ℕ)) → eqb r.0 (suc i) ≡ t → r.0 < r.1 → r.1 ≤ len → Among len rs → Among len (joined t i r rs)
    join true r rs e a h g = more (omega (arith, eqb-true _ _ e)) h g
    join false r rs e a h g = more (omega arith) (omega arith) (more a h g)

    go : (t : Bool) (rs : List (ℕ × ℕ)) → Among len rs → Among len (join_if t i rs)
    go false rs h = h
    go true [] _ = more (omega arith) (omega arith) none
    go true (r ∷ rs) (more a h g) = join (eqb r.0 (suc i)) r rs refl a h g

-- ---- an iterator at the node's first row

module _ {counted : Counted} {node : ℕ} {i : KeptRuns} (b : Begun counted node i) where
  begun : runs_left i ≡ runs_from (kept_in counted node) (rows (bytes_in counted) node) 0
  begun = rw (b.at, i.long, b.counted, b.node, sub-zero)

  inside : node < node_count (bytes_in counted)
  inside = rw (b.counted, b.node) at i.inside

  -- the rows of its runs are the node's kept rows
  pub rows-left : covered (runs_left i) ≡ kept_rows (bytes_in counted) (picks_in counted.source) node
  rows-left =
      ap covered begun ∙ runs-picks (kept_in counted node) (rows (bytes_in counted) node) 0 ∙ sym (chosen-picks (kept_in counted node) (rows (bytes_in counted) node))
      ∙ sym (kept-all (bytes_in counted) (picks_in counted.source) counted.ready.sound counted.ready.rooted node inside)

  pub among-left : Among (rows (bytes_in counted) node) (runs_left i)
  among-left = rw begun (runs-among (kept_in counted node) (rows (bytes_in counted) node) (rows (bytes_in counted) node) 0 (omega arith))

-- a node keeps no more rows than it has
pub kept-few : (counted : Counted) (node : ℕ) → node < node_count (bytes_in counted) → length (kept_rows (bytes_in counted) (picks_in counted.source) node) ≤ rows (bytes_in counted) node
kept-few counted node h = length-sifted (kept-sifted (bytes_in counted) (picks_in counted.source) counted.ready.sound counted.ready.rooted node h)

-- ---- the first run off: how many rows the others have, and how much they span by offsets that do not fall

pub length-off : {f e : ℕ} {rs xs : List (ℕ × ℕ)} → xs ≡ (f, e) ∷ rs → length (covered xs) ≡ e - f + length (covered rs)
unfolding covered
length-off {f} {e} {rs} q = ap (λ (zs : List (ℕ × ℕ)). length (covered zs)) q ∙ length-append (count_up (e - f) f) (covered rs) ∙ ap (◌+ length (covered rs)) (length_up (e - f) f)

module _ {o : ℕ → ℕ} {n : ℕ} (up : Rises o n) {f e : ℕ} {rs xs : List (ℕ × ℕ)} (q : xs ≡ (f, e) ∷ rs) (a : Among n xs) where
  spanned : (o f ≤ o e) × (o f + spans o (count_up (e - f) f) ≡ o e)
  spanned =
      let (some, high) = among-first q a in
      let z : f + (e - f) ≡ e = omega arith in
      rw z at (spans-run o n up (e - f) f (omega arith))

  pub spans-rise : o f ≤ o e
  spans-rise = spanned.0

  pub spans-off : spans o (covered xs) ≡ o e - o f + spans o (covered rs)
  unfolding covered
  spans-off = ap (λ (zs : List (ℕ × ℕ)). spans o (covered zs)) q ∙ spans-append o (count_up (e - f) f) (covered rs) ∙ ap (◌+ spans o (covered rs)) (omega (arith, spanned.0, spanned.1))

-- and where none is left
pub length-end : {xs : List (ℕ × ℕ)} → xs ≡ [] → length (covered xs) ≡ 0
unfolding covered
length-end q = ap (λ (zs : List (ℕ × ℕ)). length (covered zs)) q

pub spans-end : (o : ℕ → ℕ) {xs : List (ℕ × ℕ)} → xs ≡ [] → spans o (covered xs) ≡ 0
unfolding covered spans
spans-end o q = ap (λ (zs : List (ℕ × ℕ)). spans o (covered zs)) q
