-- The runs of a node's kept rows, found stretch by stretch. Assumes nothing.
use Prim.Native.Nat.{ℕ, zero, suc, ◌+◌, ◌-◌, ◌≤◌, ◌<◌}
use mathlib.Core.Bool.{Bool, true, false}
use mathlib.Core.List.{List, [], ◌∷◌}
use mathlib.Core.Path.{◌≡◌, refl, ap, ◌∙◌}
use native.Mathlib.Nat.{zero-add, suc-add}
use native.Mathlib.Omega.{arith}
use borrow.Author.Tests.{ltb-true, ltb-false}
use lib.Dec.{ltb}
use lib.ListN.{length}
use Rattle.std.specs.Prelude.{Option, Some, None, ⊤}
use Rattle.std.specs.Bool.{then_some}
use Rattle.std.specs.Iterator.{MakesProgress, item_count, YieldsFirst}
use Rattle.format.specs.Slots.{All, runs_from}
use Rattle.format.proofs.SlotLaws.{all_none, all_join, runs-next, runs_none}
use Rattle.stretches.specs.Stretches.{Alike, AlikeRows, kept_in}
use Rattle.stretches.specs.Kept.{runs_left}
use Rattle.stretches.specs.declared.kept.KeptRuns.{KeptRuns}

-- slots that fail are passed over
skip : (p : ℕ → Bool) (k n i a : ℕ) → a ≡ i + k → All p false i a → runs_from p (k + n) i ≡ runs_from p n a
unfolding runs_from
skip p zero n i a e all = let z : a ≡ i = omega arith in rw (z, zero-add n)
skip p (suc k) n i a e all = rw (suc-add, all.at i (omega arith) (omega arith)) (skip p k n (suc i) a (omega arith) (record { at = λ j l h. all.at j (omega arith) h }))

pub skipped : {p : ℕ → Bool} {len i a : ℕ} → i ≤ a → a ≤ len → All p false i a → runs_from p (len - i) i ≡ runs_from p (len - a) a
skipped {p} {len} {i} {a} l h all = let e : len - i ≡ a - i + (len - a) = omega arith in rw e (skip p (a - i) (len - a) i a (omega arith) all)

-- rows start to from are dropped, and rows from to `to` kept, so far
pub record Looking (p : ℕ → Bool) (start from to : ℕ) : Type 0 where
  pub low : start ≤ from
  pub high : from ≤ to
  pub before : All p false start from
  pub within : All p true from to

pub looking_none : {p : ℕ → Bool} {start : ℕ} → Looking p start start start
looking_none = record { low = omega arith; high = omega arith; before = all_none (omega arith); within = all_none (omega arith) }

module _ {p : ℕ → Bool} {start from to len : ℕ} (k : Looking p start from to) where
  -- a stretch more
  pub looking-kept : {e : ℕ} → Alike p to len true e → Looking p start from e
  looking-kept a = record { low = k.low; high = omega (arith, k.high, a.some); before = k.before; within = all_join k.within a.same }

  pub looking-dropped : {e : ℕ} → (from < to → ⊥) → Alike p to len false e → Looking p start e e
  looking-dropped f a =
      let z : from ≡ to = omega (arith, k.high) in
      record { low = omega (arith, k.low, k.high, a.some); high = omega arith; before = all_join k.before (rw (← z) at a.same); within = all_none (omega arith) }

  -- the run ends where dropped rows follow it
  pub ended : {e : ℕ} → from < to → Alike p to len false e → runs_from p (len - start) start ≡ (from, to) ∷ runs_from p (len - e) e
  ended {e} f a =
      runs-next (record { low = k.low; filled = f; high = omega (arith, a.some, a.high); before = k.before; within = k.within; stops = λ _. a.same.at to (omega arith) a.some })
      ∙ ap (λ (rs : List (ℕ × ℕ)). (from, to) ∷ rs) (skipped (omega (arith, a.some)) a.high a.same)

  -- or at the end of all
  pub ended-last : from < to → to ≡ len → runs_from p (len - start) start ≡ (from, to) ∷ runs_from p (len - to) to
  ended-last f z = runs-next (record { low = k.low; filled = f; high = omega arith; before = k.before; within = k.within; stops = λ h. absurd (omega arith) })

  pub ended_none : (from < to → ⊥) → to ≡ len → runs_from p (len - start) start ≡ []
  ended_none f z = let q : from ≡ len = omega (arith, k.high) in runs_none (rw q at k.before)

-- ---- a call of `next`

-- it has gone on in the same node
pub record Gone (i t : KeptRuns) : Type 0 where
  pub counted : t.stretches.counted ≡ i.stretches.counted
  pub node : t.node ≡ i.node
  pub len : t.len ≡ i.len

-- what was told there
pub told-in : {i s : KeptRuns} → Gone i s → {r e : ℕ} {t : Bool} → s.at ≡ r → AlikeRows s.stretches.counted s.node s.at t e → Alike (kept_in i.stretches.counted i.node) r i.len t e
told-in {i} {s} g z a = rw (g.counted, g.node, z, ← i.long) at a

module _ {i t : KeptRuns} (g : Gone i t) {from to : ℕ} (k : Looking (kept_in i.stretches.counted i.node) i.at from to) where
  left : runs_left t ≡ runs_from (kept_in i.stretches.counted i.node) (i.len - t.at) t.at
  left = rw (g.counted, g.node, g.len)

  abbrev Steps : Type 0
  Steps = YieldsFirst runs_left i (then_some (ltb from to) (from, to)) t

  steps : (from < to → runs_left i ≡ (from, to) ∷ runs_left t) → ((from < to → ⊥) → (runs_left i ≡ []) × (runs_left t ≡ [])) → Steps
  steps f n = go (ltb from to) refl
    where
      go : (b : Bool) → ltb from to ≡ b → YieldsFirst runs_left i (then_some b (from, to)) t
      go true e = f (ltb-true _ _ e)
      go false e = let l : to ≤ from = ltb-false _ _ e in n (λ f. omega arith)

  -- the rows are at their end
  pub steps-end : i.len ≤ to → to ≤ i.len → t.at ≡ to → Steps
  steps-end l h e =
      let z : to ≡ i.len = omega arith in
      steps
      (λ f. rw (left, e) (ended-last k f z))
      (λ f. (ended_none k f z, rw (left, e) (runs_none (all_none (omega arith)))))

  -- dropped rows end the run
  pub steps-dropped : {e : ℕ} → from < to → t.at ≡ e → Alike (kept_in i.stretches.counted i.node) to i.len false e → Steps
  steps-dropped f z a = steps (λ _. rw (left, z) (ended k f a)) (λ n. absurd (n f))

-- it comes nearer its end
pub goes : (i t : KeptRuns) (r : Option (ℕ × ℕ)) → YieldsFirst runs_left i r t → MakesProgress {S = KeptRuns} {A = ℕ × ℕ} (λ _. ⊤) (item_count runs_left) i r t
goes i t None g = record { on = λ _. tt; keeps = tt; rests = λ _. tt }
goes i t (Some r) g = record { on = λ _. (tt, tt, omega (arith, ap length g)); keeps = tt; rests = λ _. tt }
