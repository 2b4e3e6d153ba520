-- A bitmap of kept rows marked run by run. Assumes nothing.
use Prim.Native.Nat.{ℕ, zero, suc, ◌+◌, ◌-◌, ◌*◌, ◌<◌}
use mathlib.Core.Bool.{Bool, false, ◌||◌}
use mathlib.Core.List.{List, [], ◌∷◌, append-nil}
use mathlib.Core.Path.{◌≡◌, refl, sym, ap, ◌∙◌}
use mathlib.Core.Logic.{dite}
use native.Mathlib.Decide.{dec_lt}
use native.Mathlib.Omega.{arith}
use borrow.Author.Tests.{le-ltb, lt-ltb}
use lib.ListN.{length, replicate}
use lib.Seq.{drop-length}
use Rattle.format.specs.Bytes.{bytes_for, packed, over, within}
use Rattle.format.specs.Node.{node_count, rows}
use Rattle.format.specs.Slots.{slots_from, up_to, count_up, covered}
use Rattle.format.specs.Put.{Wrote}
use Rattle.format.proofs.Put.{wrote-front}
use Rattle.nesting.specs.Rows.{between, keeps, picks_in}
use Rattle.nesting.specs.declared.Counted.{Counted}
use Rattle.nesting.proofs.Between.{above, between-append}
use Rattle.nesting.proofs.Tree.{kept-all}
use Rattle.marks.specs.Marks.{Marked}
use Rattle.marks.proofs.Stored.{length-rows}
use Rattle.marks.proofs.Tests.{within_in, within-before, within-past, within_none, within-join}
use Rattle.marks.proofs.Marking.{Marking, marking-less, marking-done, marked-none, marked-packed}
use Rattle.stretches.specs.Stretches.{bytes_in, kept_in}
use Rattle.stretches.specs.Kept.{runs_left, Begun}
use Rattle.stretches.specs.declared.kept.KeptRuns.{KeptRuns}
use Rattle.stretches.proofs.Ranges.{Among, among-first, rows-left}

-- row k is one of those of the runs
abbrev pub in_runs : List (ℕ × ℕ) → ℕ → Bool
in_runs rs k = between (covered rs) k (suc k)

-- one row, and those of a run
one-row : (i k : ℕ) → within 0 k (suc k) i ≡ within 0 i (suc i) k
one-row i k =
    dite (dec_lt i k)
    (λ l. rw (within-before k (suc k) i l, within-past i (suc i) k (omega arith)))
    (λ l. dite (dec_lt k i)
    (λ h. rw (within-past k (suc k) i (omega arith), within-before i (suc i) k h))
    (λ h. rw (within_in k (suc k) i (omega arith) (omega arith), within_in i (suc i) k (omega arith) (omega arith))))

in-range : (n i k : ℕ) → between (count_up n i) k (suc k) ≡ within 0 i (i + n) k
unfolding between count_up
in-range zero i k = sym (within_none i (i + 0) k (omega arith))
in-range (suc n) i k =
    let e : suc i + n ≡ i + suc n = omega arith in
    rw (one-row i k, in-range n (suc i) k, e) (within-join i (suc i) (i + suc n) k (omega arith) (omega arith))

-- the first run off
first-off : {n f e : ℕ} {rs xs : List (ℕ × ℕ)} → xs ≡ (f, e) ∷ rs → Among n xs → (k : ℕ) → in_runs xs k ≡ (within 0 f e k || in_runs rs k)
unfolding covered
first-off {f = f} {e} {rs} q a k =
    let z : f + (e - f) ≡ e = omega (arith, among-first q a) in
    ap (λ (zs : List (ℕ × ℕ)). in_runs zs k) q ∙ between-append (count_up (e - f) f) (covered rs) k (suc k) ∙ ap (◌|| in_runs rs k) (in-range (e - f) f k ∙ ap (λ (x : ℕ). within 0 f x k) z)

none-left : (k : ℕ) → in_runs [] k ≡ false
unfolding covered between
none-left k = refl

-- the loop: at first all are left, a run more is marked, and at the end all are
module _ (counted : Counted) (node : ℕ) where
  abbrev test : ℕ → Bool
  test = up_to (kept_in counted node) (rows (bytes_in counted) node)

  kept-up_to : node < node_count (bytes_in counted) → (k : ℕ) → kept_in counted node k ≡ test k
  unfolding keeps
  kept-up_to h k =
      dite (dec_lt k (rows (bytes_in counted) node))
      (λ l. rw (lt-ltb k (rows (bytes_in counted) node) l))
      (λ l. rw (le-ltb k (rows (bytes_in counted) node) (omega arith))
      (ap (λ (rs : List ℕ). between rs k (suc k)) (kept-all (bytes_in counted) (picks_in counted.source) counted.ready.sound counted.ready.rooted node h)
      ∙ above (kept_in counted node) (rows (bytes_in counted) node) k (suc k) (omega arith)))

  pub all-left : node < node_count (bytes_in counted) → {i : KeptRuns} → Begun counted node i → {s : List ℕ} → Marking test s s (in_runs (runs_left i))
  unfolding keeps
  all-left h b = record { so = λ k. false; marked = marked-none (λ k. refl); all = λ k. ap (λ (rs : List ℕ). between rs k (suc k)) (rows-left b) ∙ kept-up_to h k }

pub run-marked : {t : ℕ → Bool} {old mid new : List ℕ} {n f e : ℕ} {rs xs : List (ℕ × ℕ)} → Among n xs → xs ≡ (f, e) ∷ rs → Marking t old mid (in_runs xs) → Marked (within 0 f e) mid new → Marking t old new (in_runs rs)
run-marked a q m k = marking-less m (first-off q a) k

pub all-marked : {t : ℕ → Bool} {old new : List ℕ} {xs : List (ℕ × ℕ)} → xs ≡ [] → Marking t old new (in_runs xs) → Marked t old new
all-marked q m = marking-done (rw q at m) none-left

-- marks over zeros, in a slice of their own
pub region-kept : (p : ℕ → Bool) (n : ℕ) {old mid new : List ℕ} {next : ℕ} (size : ℕ) → size ≡ length old → length old ≡ bytes_for n → Wrote old 0 (replicate size 0) mid next → Marked (up_to p n) mid new
    → new ≡ packed (slots_from p n 0)
unfolding over
region-kept p n {old} size e long z m =
    let wrote = marked-packed {at = 0} p n size (e ∙ long) (omega arith) z m (λ k h. absurd (omega arith)) (λ k h. rw (le-ltb k n (omega arith))) tells in
    let all : length (packed (slots_from p n 0)) ≡ length old = length-rows p n ∙ sym long in
    wrote-front wrote (omega arith) ∙ rw (all, drop-length old) (append-nil _)
  where
    tells : (x : ℕ) → x < n → up_to p n (8 * 0 + x) ≡ p x
    tells x h = let z : 8 * 0 + x ≡ x = omega arith in rw (z, lt-ltb x n h)
