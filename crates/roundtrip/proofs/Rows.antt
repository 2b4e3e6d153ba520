-- The rows that the nodes of an accepted journal keep: how they are handed on, that there are no more of them than rows, and how runs share them. Assumes nothing.
use Prim.Native.Nat.{ℕ, zero, suc, ◌+◌, ◌-◌, ◌≤◌, ◌<◌, min}
use mathlib.Core.Path.{◌≡◌, refl, sym, ap, ap₂, ◌∙◌}
use mathlib.Core.Bool.{Bool, true, false, cond}
use mathlib.Core.List.{List, [], ◌∷◌, ◌++◌, map, append-nil}
use native.Mathlib.Decide.{dec_lt}
use native.Mathlib.Nat.{add_assoc, zero-add, sub-zero}
use native.Mathlib.Omega.{arith}
use borrow.Author.Tests.{lt-ltb, le-ltb, le-leb, lt-leb, ltb-true, ltb-false}
use lib.Dec.{ltb}
use lib.ListN.{length, get_or, length-append, length-map, get_or-append}
use lib.Seq.{get_or_at}
use Rattle.format.specs.declared.Kind.{Kind}
use Rattle.format.specs.declared.Kind.TheVariants.{Runs}
use Rattle.format.specs.Bytes.{table, join, chosen, count_if, within, sum_below, one}
use Rattle.format.specs.Node.{node_count, rows, skip, kind, parent, child, run_end, run_start, places, first_number}
use Rattle.format.specs.Slots.{up_to, picks_from, count_up}
use Rattle.format.specs.Kept.{in_run, group_size, kept_runs, span_size, span, kept_spans, carried, passed_on, kept_rows}
use Rattle.format.specs.Write.{total}
use Rattle.format.specs.Accepted.{OneChild, Shares, Carries, Nests, Inner, shared, by_runs, by_spans, Spans, RunEnds, Sound}
use Rattle.format.specs.Accepted as is
use Rattle.format.proofs.Laws.{length-table, join-append, kept-root, kept-child, count-within}
use Rattle.format.proofs.Numbers.{sum-front}
use Rattle.format.proofs.SlotLaws.{chosen-picks, picks-up_to, picks-all, count-le, up-cat}
use Rattle.format.proofs.SpanLaws.{kept_spans-are, length-span}
use Rattle.roundtrip.specs.Back.{Below, Chosen}
use Rattle.roundtrip.proofs.Parts.{get_d_map, total-join, total-more}

-- ---- chosen numbers

-- one number more at the end
get_or-snoc : (xs : List ℕ) (x k : ℕ) (d : ℕ) → k < suc (length xs) → (k < length xs → ⊥) → get_or (xs ++ (x ∷ [])) k d ≡ x
get_or-snoc xs x k d h n = let e : k ≡ length xs = omega arith in rw e (get_or_at xs x [] d (length xs) refl)

-- what each chosen number has, where each that passes has it
pub chosen-each : (P : ℕ → Type 0) (p : ℕ → Bool) (n : ℕ) → ((j : ℕ) → j < n → p j ≡ true → P j) → (k : ℕ) → k < length (chosen p n) → P (get_or (chosen p n) k 0)
unfolding chosen
chosen-each P p zero h k l = absurd (omega arith)
chosen-each P p (suc n) h k l = go (p n) refl l (chosen-each P p n (λ j i t. h j (omega arith) t) k) (dec_lt k (length (chosen p n)))
  where
    go : (t : Bool) → p n ≡ t → k < length (chosen p n ++ cond t (n ∷ []) []) → (k < length (chosen p n) → P (get_or (chosen p n) k 0)) → Dec (k < length (chosen p n))
        → P (get_or (chosen p n ++ cond t (n ∷ []) []) k 0)
    go true e i ih (yes m) = rw (get_or-append (chosen p n) (n ∷ []) 0 k m) (ih m)
    go true e i ih (no m) = rw (get_or-snoc (chosen p n) n k 0 (omega (arith, length-append (chosen p n) (n ∷ []))) m) (h n (omega arith) e)
    go false e i ih d = rw (append-nil (chosen p n)) (ih (rw (append-nil (chosen p n)) at i))

pub few-chosen : (p : ℕ → Bool) (n : ℕ) → length (chosen p n) ≤ n
few-chosen p n = rw chosen-picks (count-le p n 0)

pub chosen-all : (p : ℕ → Bool) (n : ℕ) → ((j : ℕ) → j < n → p j ≡ true) → chosen p n ≡ table (λ k. k) n
unfolding chosen table
chosen-all p zero h = refl
chosen-all p (suc n) h = rw (chosen-all p n (λ j l. h j (omega arith)), h n (omega arith))

pub below-chosen : (p : ℕ → Bool) (m n : ℕ) → m ≤ n → Below n (chosen p m)
below-chosen p m n h =
    record {
      few = omega (arith, few-chosen p m);
      small = chosen-each (λ j. j < n) p m (λ j l t. omega arith);
    }

-- rows that a test chooses are such numbers; so are all rows, none, and those that a test chooses below a smaller number
pub below_of : {n : ℕ} {rs : List ℕ} → Chosen n rs → Below n rs
below_of {n} c = rw c.are (below-chosen c.test n n (omega arith))

pub chosen-below : (p : ℕ → Bool) (m n : ℕ) → m ≤ n → Chosen n (chosen p m)
chosen-below p m n h =
    record { test = up_to p m; are = chosen-picks p m ∙ sym (chosen-picks (up_to p m) n ∙ picks-up_to p m n 0 (omega arith) (omega arith) ∙ ap (λ (k : ℕ). picks_from p k 0) (sub-zero m)) }

pub chosen-rows : (n : ℕ) → Chosen n (table (λ k. k) n)
chosen-rows n = record { test = λ k. true; are = sym (chosen-all (λ k. true) n (λ k l. refl)) }

chosen_none : (n : ℕ) → Chosen n []
unfolding chosen
chosen_none n = chosen-below (λ k. true) 0 n (omega arith)

chosen-carried : (rs : List ℕ) (n : ℕ) → Chosen n (carried rs n)
unfolding carried
chosen-carried [] n = chosen_none n
chosen-carried (r ∷ rs) n = chosen-rows n

chosen-spans : (w : ℕ) (b : List ℕ) (i : ℕ) (rs : List ℕ) → Spans w b i → Chosen (rows b i) rs → Chosen (rows b (child i)) (kept_spans w b i rs)
chosen-spans w b i rs s c = record { test = _; are = ap (kept_spans w b i) c.are ∙ kept_spans-are w b i c.test s }

-- ---- what a node hands on, by its kind

module _ (b : List ℕ) (p i : ℕ) (rs : List ℕ) where
  passed-shared : (k : Kind) → Shares k → passed_on k b p i rs ≡ rs
  unfolding passed_on
  passed-shared _ is.Shares.struct = refl
  passed-shared _ is.Shares.union = refl

  passed-carried : (k : Kind) → Carries k → passed_on k b p i rs ≡ carried rs (rows b i)
  unfolding passed_on
  passed-carried _ is.Carries.views = refl
  passed-carried _ is.Carries.lists32 = refl
  passed-carried _ is.Carries.lists64 = refl
  passed-carried _ is.Carries.dictionary = refl

  passed-nested : (w : ℕ) (k : Kind) → Nests w k → passed_on k b p i rs ≡ kept_spans w b p rs
  unfolding passed_on
  passed-nested _ _ is.Nests.nested32 = refl
  passed-nested _ _ is.Nests.nested64 = refl

  passed-runs : (k : Kind) → k ≡ Runs → passed_on k b p i rs ≡ kept_runs b p rs
  unfolding passed_on
  passed-runs k e = rw e

module _ (b root : List ℕ) where
  parent_of : (i : ℕ) → 0 < i → kept_rows b root i ≡ passed_on (kind b (parent b i)) b (parent b i) i (kept_rows b root (parent b i))
  parent_of zero h = absurd (omega arith)
  parent_of (suc i) h = kept-child b root i

  module _ (i : ℕ) (h : 0 < i) where
    pub kept-shared : Shares (kind b (parent b i)) → kept_rows b root i ≡ kept_rows b root (parent b i)
    kept-shared s = parent_of i h ∙ passed-shared b (parent b i) i (kept_rows b root (parent b i)) _ s

    pub kept-carried : Carries (kind b (parent b i)) → kept_rows b root i ≡ carried (kept_rows b root (parent b i)) (rows b i)
    kept-carried s = parent_of i h ∙ passed-carried b (parent b i) i (kept_rows b root (parent b i)) _ s

    pub kept-nested : (w : ℕ) → Nests w (kind b (parent b i)) → kept_rows b root i ≡ kept_spans w b (parent b i) (kept_rows b root (parent b i))
    kept-nested w s = parent_of i h ∙ passed-nested b (parent b i) i (kept_rows b root (parent b i)) w _ s

    pub kept-runs : kind b (parent b i) ≡ Runs → kept_rows b root i ≡ kept_runs b (parent b i) (kept_rows b root (parent b i))
    kept-runs s = parent_of i h ∙ passed-runs b (parent b i) i (kept_rows b root (parent b i)) _ s

-- ---- the kept rows of each node of a sound journal

pub only-run : (k : Kind) → k ≡ Runs → OneChild k
only-run k e = rw e is.OneChild.runs

pub only-nested : (w : ℕ) (k : Kind) → Nests w k → OneChild k
only-nested _ _ is.Nests.nested32 = is.OneChild.nested32
only-nested _ _ is.Nests.nested64 = is.OneChild.nested64

module _ (b root : List ℕ) (s : Sound b) (picked : Chosen (rows b 0) root) where
  chosen-child : (i : ℕ) → 0 < i → i < node_count b → Inner (kind b (parent b i)) → Chosen (rows b (parent b i)) (kept_rows b root (parent b i)) → Chosen (rows b i) (kept_rows b root i)
  unfolding kept_runs
  chosen-child i h l (shared q) ih = rw (kept-shared b root i h q, s.agree.same i h l q) ih
  chosen-child i h l (by_runs q) ih =
      let e : child (parent b i) ≡ i = sym (s.shape.only i h l (only-run (kind b (parent b i)) q)) in
      rw (kept-runs b root i h q, e) (chosen-below _ (rows b i) (rows b i) (omega arith))
  chosen-child i h l (is.Inner.carried q) ih = rw (kept-carried b root i h q) (chosen-carried _ _)
  chosen-child i h l (by_spans w q) ih =
      let e : child (parent b i) ≡ i = sym (s.shape.only i h l (only-nested w (kind b (parent b i)) q)) in
      let up : parent b i < node_count b = omega (arith, s.shape.above i h) in
      rw (kept-nested b root i h w q) (rw e at (chosen-spans w b (parent b i) (kept_rows b root (parent b i)) (s.spans w (parent b i) up q) ih))

  chosen-up : (n i : ℕ) → i < n → i < node_count b → Chosen (rows b i) (kept_rows b root i)
  chosen-up zero i h l = absurd (omega arith)
  chosen-up (suc n) zero h l = rw (kept-root b root) picked
  chosen-up (suc n) (suc i) h l =
      let m = s.shape.above (suc i) (omega arith) in
      chosen-child (suc i) (omega arith) l (s.shape.inner (suc i) (omega arith) l) (chosen-up n (parent b (suc i)) (omega arith) (omega arith))

  pub kept-chosen : (i : ℕ) → i < node_count b → Chosen (rows b i) (kept_rows b root i)
  kept-chosen i l = chosen-up (suc i) i (omega arith) l

  pub kept-below : (i : ℕ) → i < node_count b → Below (rows b i) (kept_rows b root i)
  kept-below i l = below_of (kept-chosen i l)

-- ---- how runs share the rows

-- a size more at the front, and at the end
total-cons : (y : ℕ) (xs : List ℕ) (n : ℕ) → total (y ∷ xs) (suc n) ≡ y + total xs n
unfolding total
total-cons y xs n = sum-front (λ j. get_or (y ∷ xs) j 0) n

total-snoc : (xs : List ℕ) (x : ℕ) → total (xs ++ (x ∷ [])) (length (xs ++ (x ∷ []))) ≡ total xs (length xs) + x
unfolding total sum_below
total-snoc [] x = refl
total-snoc (y ∷ xs) x =
    total-cons y (xs ++ (x ∷ [])) (length (xs ++ (x ∷ []))) ∙ ap (y +◌) (total-snoc xs x) ∙ sym (add_assoc y (total xs (length xs)) x)
    ∙ ap (◌+ x) (sym (total-cons y xs (length xs)))

pub map_snoc : (f : ℕ → ℕ) (xs : List ℕ) (x : ℕ) → map f (xs ++ (x ∷ [])) ≡ map f xs ++ (f x ∷ [])
map_snoc f [] x = refl
map_snoc f (y ∷ xs) x = ap (f y ∷◌) (map_snoc f xs x)

-- the sizes above 0 sum up as all of them do
abbrev sizes_of : (ℕ → ℕ) → ℕ → List ℕ
sizes_of g n = map g (chosen (λ j. ltb 0 (g j)) n)

pub sum-sizes : (g : ℕ → ℕ) (n : ℕ) → total (sizes_of g n) (length (sizes_of g n)) ≡ sum_below g n
unfolding chosen total sum_below
sum-sizes g zero = refl
sum-sizes g (suc n) = go (ltb 0 (g n)) refl (sum-sizes g n)
  where
    kept : List ℕ
    kept = chosen (λ j. ltb 0 (g j)) n

    go : (t : Bool) → ltb 0 (g n) ≡ t → total (map g kept) (length (map g kept)) ≡ sum_below g n
        → total (map g (kept ++ cond t (n ∷ []) [])) (length (map g (kept ++ cond t (n ∷ []) []))) ≡ sum_below g n + g n
    go true e ih = rw (map_snoc g kept n) (total-snoc (map g kept) (g n) ∙ ap (◌+ g n) ih)
    go false e ih = rw (append-nil kept) (omega (arith, ltb-false 0 (g n) e, ih))

-- the numbers that k brings below s, and those that it brings into [s, e), are those that it brings below e
one_below : (k s e r : ℕ) → s ≤ e → Dec (k + r < s) → Dec (k + r < e) → one (ltb (k + r) s) + one (within k s e r) ≡ one (ltb (k + r) e)
unfolding within
one_below k s e r h (yes l) d = rw (lt-ltb (k + r) s l, lt-leb s (k + r) l, lt-ltb (k + r) e (omega arith))
one_below k s e r h (no l) (yes m) = rw (le-ltb (k + r) s (omega arith), le-leb s (k + r) (omega arith), lt-ltb (k + r) e m)
one_below k s e r h (no l) (no m) = rw (le-ltb (k + r) s (omega arith), le-leb s (k + r) (omega arith), le-ltb (k + r) e (omega arith))

count-below : (k s e : ℕ) (rs : List ℕ) → s ≤ e → count_if (λ r. ltb (k + r) s) rs + count_if (within k s e) rs ≡ count_if (λ r. ltb (k + r) e) rs
unfolding count_if within
count-below k s e [] h = refl
count-below k s e (r ∷ rs) h = omega (arith, one_below k s e r h (dec_lt (k + r) s) (dec_lt (k + r) e), count-below k s e rs h)

-- all of them, and none
count-all : (p : ℕ → Bool) (rs : List ℕ) → ((j : ℕ) → j < length rs → p (get_or rs j 0) ≡ true) → count_if p rs ≡ length rs
unfolding count_if
count-all p [] h = refl
count-all p (r ∷ rs) h = rw (h 0 (omega arith), count-all p rs (λ j l. h (suc j) (omega arith))) (omega arith)

count_none : (p : ℕ → Bool) (rs : List ℕ) → ((r : ℕ) → p r ≡ false) → count_if p rs ≡ 0
unfolding count_if
count_none p [] h = refl
count_none p (r ∷ rs) h = rw (h r, count_none p rs h)

module _ (b : List ℕ) (i : ℕ) (q : RunEnds b i) (rs : List ℕ) (picked : Below (rows b i) rs) where
  starts-rise : (j : ℕ) → j < rows b (child i) → run_start b i j ≤ run_start b i (suc j)
  unfolding run_start
  starts-rise j l = omega (arith, q.rise j l)

  pub counted : (m : ℕ) → m ≤ rows b (child i) → sum_below (group_size b i rs) m ≡ count_if (λ r. ltb (skip b i + r) (run_start b i m)) rs
  unfolding sum_below group_size in_run run_start
  counted zero l = sym (count_none (λ r. ltb (skip b i + r) 0) rs (λ r. le-ltb (skip b i + r) 0 (omega arith)))
  counted (suc m) l =
      ap (◌+ group_size b i rs m) (counted m (omega arith)) ∙ count-below (skip b i) (run_start b i m) (run_end b i m) rs (starts-rise m l)

  -- each kept row lies in one run
  pub all-shared : total (sizes_of (group_size b i rs) (rows b (child i))) (length (sizes_of (group_size b i rs) (rows b (child i)))) ≡ length rs
  unfolding places
  all-shared =
      sum-sizes (group_size b i rs) (rows b (child i)) ∙ counted (rows b (child i)) (omega arith)
      ∙ count-all (λ r. ltb (skip b i + r) (run_start b i (rows b (child i)))) rs
      (λ j l. lt-ltb (skip b i + get_or rs j 0) (run_start b i (rows b (child i))) (omega (arith, picked.small j l, q.cover)))

  -- and each kept run has some
  pub some-shared : (j : ℕ) → j < length (kept_runs b i rs) → 0 < get_or (sizes_of (group_size b i rs) (rows b (child i))) j 0
  unfolding kept_runs
  some-shared j l =
      rw (get_d_map (group_size b i rs) (kept_runs b i rs) j 0 0 l)
      (chosen-each (λ k. 0 < group_size b i rs k) (λ k. ltb 0 (group_size b i rs k)) (rows b (child i)) (λ k m t. ltb-true 0 (group_size b i rs k) t) j l)

-- of all numbers below n, those between two sums of sizes are as many as the size between them
pub between : (sizes : List ℕ) (j n : ℕ) → total sizes (suc j) ≤ n → count_if (within 0 (total sizes j) (total sizes (suc j))) (table (λ k. k) n) ≡ get_or sizes j 0
between sizes j n h =
    let all : (m : ℕ) → length (chosen (λ (k : ℕ). true) m) ≡ m = λ m. ap length (chosen-all (λ k. true) m (λ k l. refl)) ∙ length-table (λ k. k) m in
    let c = count-within (λ k. true) 0 (total sizes j) (total sizes (suc j)) (omega (arith, total-more sizes j)) n in
    rw (← chosen-all (λ k. true) n (λ k l. refl))
    (omega (arith, c, all (min (total sizes j - 0) n), all (min (total sizes (suc j) - 0) n), total-more sizes j))

-- ---- how many child rows lists have

-- all numbers below n, counted up
pub rows-up : (n : ℕ) → table (λ k. k) n ≡ count_up n 0
rows-up n = sym (chosen-all (λ k. true) n (λ k l. refl)) ∙ chosen-picks (λ k. true) n ∙ picks-all (λ k. true) n 0 (record { at = λ j a l. refl })

sizes-of : (w : ℕ) (b : List ℕ) (i : ℕ) (rs : List ℕ) → map length (map (span w b i) rs) ≡ map (span_size w b i) rs
sizes-of w b i [] = refl
sizes-of w b i (r ∷ rs) = rw (length-span w b i r, sizes-of w b i rs)

pub count-spans : (w : ℕ) (b : List ℕ) (i : ℕ) (rs : List ℕ) → length (kept_spans w b i rs) ≡ total (map (span_size w b i) rs) (length rs)
unfolding kept_spans
count-spans w b i rs =
    sym (total-join (map (span w b i) rs)) ∙ ap (λ (xs : List ℕ). total xs (length (map (span w b i) rs))) (sizes-of w b i rs)
    ∙ ap (total (map (span_size w b i) rs)) (length-map rs (span w b i))

span-as : (w : ℕ) (b : List ℕ) (i r : ℕ) {n at : ℕ} → span_size w b i r ≡ n → first_number w b i r ≡ at → span w b i r ≡ count_up n at
unfolding span
span-as w b i r p q = ap₂ count_up p q

map-rows-snoc : {A : Type 0} (f : ℕ → A) (xs : List ℕ) (x : ℕ) → map f (xs ++ (x ∷ [])) ≡ map f xs ++ (f x ∷ [])
map-rows-snoc f [] x = refl
map-rows-snoc f (y ∷ xs) x = ap (f y ∷◌) (map-rows-snoc f xs x)

-- rows whose child rows follow one another from 0 on have all of them
pub spans-follow : (w : ℕ) (b : List ℕ) (i : ℕ) (sizes : List ℕ) (n : ℕ)
    → ((r : ℕ) → r < n → span_size w b i r ≡ get_or sizes r 0) → ((r : ℕ) → r < n → first_number w b i r ≡ total sizes r)
    → kept_spans w b i (table (λ k. k) n) ≡ table (λ k. k) (total sizes n)
unfolding kept_spans table total sum_below join
spans-follow w b i sizes zero f g = refl
spans-follow w b i sizes (suc n) f g =
    rw (map-rows-snoc (span w b i) (table (λ k. k) n) n, join-append)
    (ap₂ ◌++◌ (spans-follow w b i sizes n (λ r l. f r (omega arith)) (λ r l. g r (omega arith)) ∙ rows-up (total sizes n)) (append-nil (span w b i n) ∙ here)
    ∙ sym (rows-up (total sizes n + get_or sizes n 0) ∙ up-cat (total sizes n) (get_or sizes n 0) 0 ∙ ap (λ (k : ℕ). count_up (total sizes n) 0 ++ count_up (get_or sizes n 0) k) (zero-add (total sizes n))))
  where
    here : span w b i n ≡ count_up (get_or sizes n 0) (total sizes n)
    here = span-as w b i n (f n (omega arith)) (g n (omega arith))
