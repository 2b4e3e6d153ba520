-- What a cursor has still to give: laws of the picks and of the runs' starts and ends from a row on, over any test p of the rows below len. Assumes nothing.
use Rattle.std.proofs.Common.{◌≡◌, ℕ, zero, suc, ◌+◌, ◌-◌, ◌<◌, ◌≤◌, Bool, true, false, List, [], ◌∷◌, ◌++◌, sym, refl, ap, ◌∙◌, append-nil, add-one, arith}
use native.Mathlib.Nat.{sub-zero}
use Rattle.format.specs.Rows.{set_rows, Below}
use Rattle.format.specs.Slots.{after, word_from, pick, picks_from, runs_from, count_up, starts_and_ends, All, FirstRun}
use Rattle.format.proofs.RowLaws.{set-from, below_left, below-picks}
use Rattle.format.proofs.SlotLaws.{all_none, all_one, all_join, all-less, after_is, after-not, picks-cat, picks-none, picks-all, picks-ext, runs-next, runs_none, Next, runs-first}
use Rattle.predicate.specs.Blocks.{picks_on, edges_on}

-- ---- from what is known of the rows to the lists

pub picks_start : (p : ℕ → Bool) (len : ℕ) → picks_on p len 0 ≡ picks_from p len 0
unfolding picks_on
picks_start p len = rw sub-zero

pub edges-start : (p : ℕ → Bool) (len : ℕ) → edges_on p len 0 ≡ starts_and_ends (runs_from p len 0)
unfolding edges_on
edges-start p len = rw sub-zero

-- a span off the picks
pub picks-span : {p : ℕ → Bool} {from a e : ℕ} (len : ℕ) → from ≤ a → a ≤ e → e ≤ len → All p false from a → All p true a e → picks_on p len from ≡ count_up (e - a) a ++ picks_on p len e
unfolding picks_on
picks-span {p} {from} {a} {e} len l m h before within =
    let n : len - from ≡ (a - from) + ((e - a) + (len - e)) = omega arith in
    let i : from + (a - from) ≡ a = omega arith in
    let j : a + (e - a) ≡ e = omega arith in
    rw (n, picks-cat, i, picks-cat p (e - a), j, picks-none p (a - from) from (rw i before), picks-all p (e - a) a (rw j within))

-- the rows up to the end of a span
pub picks-run : {p : ℕ → Bool} {from a e : ℕ} → from ≤ a → a ≤ e → All p false from a → All p true a e → picks_from p (e - from) from ≡ count_up (e - a) a
picks-run {p} {from} {a} {e} l m before within =
    let n : e - from ≡ (a - from) + (e - a) = omega arith in
    let i : from + (a - from) ≡ a = omega arith in
    let j : a + (e - a) ≡ e = omega arith in
    rw (n, picks-cat, i, picks-none p (a - from) from (rw i before), picks-all p (e - a) a (rw j within))

-- some rows off the picks
pub picks-upto : (p : ℕ → Bool) (len from to : ℕ) → from ≤ to → to ≤ len → picks_on p len from ≡ picks_from p (to - from) from ++ picks_on p len to
unfolding picks_on
picks-upto p len from to l h =
    let n : len - from ≡ (to - from) + (len - to) = omega arith in
    let i : from + (to - from) ≡ to = omega arith in
    rw (n, picks-cat, i)

pub picks-end : {p : ℕ → Bool} {from len : ℕ} → All p false from len → picks_on p len from ≡ []
unfolding picks_on
picks-end {p} {from} {len} all = picks-none p (len - from) from (record { at = λ j l h. all.at j l (omega arith) })

pub picks-over : (p : ℕ → Bool) (len from : ℕ) → len ≤ from → picks_on p len from ≡ []
picks-over p len from h = picks-end (all_none h)

-- a run off the starts and ends
pub edges-run : {p : ℕ → Bool} {from len a e : ℕ} → FirstRun p from len a e → edges_on p len from ≡ a ∷ e ∷ edges_on p len e
unfolding edges_on starts_and_ends
edges-run f = ap starts_and_ends (runs-next f)

pub edges-end : {p : ℕ → Bool} {from len : ℕ} → All p false from len → edges_on p len from ≡ []
unfolding edges_on starts_and_ends
edges-end all = ap starts_and_ends (runs_none all)

-- ---- a word off the picks of a test that passes no row from len on

module _ (p : ℕ → Bool) (len : ℕ) (past : (j : ℕ) → len ≤ j → p j ≡ false) where
  -- k rows up to len or further, and m more
  picks-past : (k m i : ℕ) → len ≤ i + k → picks_from p (k + m) i ≡ picks_from p k i
  picks-past k m i h =
      let none : picks_from p m (i + k) ≡ [] = picks-none p m (i + k) (record { at = λ j l _. past j (omega arith) }) in
      rw (picks-cat, none) (append-nil (picks_from p k i))

  -- so as many as reach len or further
  picks-reach : (n i : ℕ) → len ≤ i + n → picks_on p len i ≡ picks_from p n i
  unfolding picks_on
  picks-reach n i h = let e : (len - i) + (n - (len - i)) ≡ n = omega arith in sym (picks-past (len - i) (n - (len - i)) i (omega arith)) ∙ ap (λ (k : ℕ). picks_from p k i) e

  -- what is left of the word at i, from `place` on, and the words after it
  pub picks-word : (i place : ℕ) → i ≤ place → place ≤ i + 64 → picks_on p len place ≡ picks_from (after p place) 64 i ++ picks_on p len (i + 64)
  unfolding picks_on
  picks-word i place l h =
      let n : 64 ≡ (place - i) + (i + 64 - place) = omega arith in
      let at : i + (place - i) ≡ place = omega arith in
      let to : place + (i + 64 - place) ≡ i + 64 = omega arith in
      let before : picks_from (after p place) (place - i) i ≡ [] = picks-none _ _ _ (record { at = λ j a k. after-not p place j (omega arith) }) in
      let same : picks_from (after p place) (i + 64 - place) place ≡ picks_from p (i + 64 - place) place = picks-ext _ _ _ _ (λ j a k. after_is p place j a) in
      let word : picks_from (after p place) 64 i ≡ picks_from p (i + 64 - place) place =
      ap (λ (k : ℕ). picks_from (after p place) k i) n ∙ rw (picks-cat, before, at, same) in
      picks-reach ((i + 64 - place) + (len - (i + 64))) place (omega arith)
      ∙ rw (word, picks-cat, to)

  -- a whole word
  pub picks-whole : (i : ℕ) {next x : ℕ} → x ≡ word_from p 64 i → next ≡ i + 64 → picks_on p len i ≡ set_rows i x ++ picks_on p len next
  picks-whole i is e =
      let same : picks_from (after p i) 64 i ≡ picks_from p 64 i = picks-ext _ _ 64 i (λ j a k. after_is p i j a) in
      rw (e, is, set-from, ← same) (picks-word i i (omega arith) (omega arith))

  -- its rows are below len, and so below any greater number
  pub word_below : (i n : ℕ) {x : ℕ} → x ≡ word_from p 64 i → i ≤ len → len ≤ n → Below n (set_rows i x)
  unfolding picks_on
  word_below i n is h l = below_left _ _ (rw (picks-whole i is refl) at (below-picks p n (len - i) i (omega arith)))

-- ---- and back

-- row a is the first picked from `from` on, and xs the others
pub record Head (p : ℕ → Bool) (len from a : ℕ) (xs : List ℕ) : Type 0 where
  pub low : from ≤ a
  pub high : a < len
  pub before : All p false from a
  pub here : p a ≡ true
  pub others : picks_on p len (a + 1) ≡ xs

head_of : (p : ℕ → Bool) (n i a len : ℕ) (xs : List ℕ) → len ≡ i + n → picks_from p n i ≡ a ∷ xs → Head p len i a xs
unfolding picks_from picks_on
head_of p zero i a len xs e q = absurd (never q)
  where
    never : ◌≡◌ {A = List ℕ} [] (a ∷ xs) → ⊥
    never q = let z : ◌≡◌ {A = ℕ} 0 1 = cc in omega arith
head_of p (suc n) i a len xs e q = go (p i) refl q (head_of p n (suc i) a len xs (omega arith))
  where
    go : (t : Bool) → p i ≡ t → pick t i (picks_from p n (suc i)) ≡ a ∷ xs → (picks_from p n (suc i) ≡ a ∷ xs → Head p len (suc i) a xs) → Head p len i a xs
    go true t q ih =
        let s : i ≡ a = cc in
        let m : len - (a + 1) ≡ n = omega arith in
        let k : a + 1 ≡ suc i = omega arith in
        record {
          low = omega arith;
          high = omega arith;
          before = all_none (omega arith);
          here = rw (← s) t;
          others = rw (m, k) (cc);
        }
    go false t q ih =
        let h = ih q in
        record {
          low = omega (arith, h.low);
          high = h.high;
          before = all_join (all_one t) (rw add-one h.before);
          here = h.here;
          others = h.others;
        }

pub picks-head : {p : ℕ → Bool} {len from a : ℕ} {xs : List ℕ} → from ≤ len → picks_on p len from ≡ a ∷ xs → Head p len from a xs
unfolding picks_on
picks-head h q = head_of _ _ _ _ _ _ (omega arith) q

-- no pick: no row passes
empty_of : (p : ℕ → Bool) (n i : ℕ) → picks_from p n i ≡ [] → All p false i (i + n)
unfolding picks_from
empty_of p zero i q = all_none (omega arith)
empty_of p (suc n) i q = go (p i) refl q (empty_of p n (suc i))
  where
    go : (t : Bool) → p i ≡ t → pick t i (picks_from p n (suc i)) ≡ [] → (picks_from p n (suc i) ≡ [] → All p false (suc i) (suc i + n)) → All p false i (i + suc n)
    go true t q ih = let z : ◌≡◌ {A = ℕ} 0 1 = cc in absurd (omega arith)
    go false t q ih =
        let m : i + suc n ≡ suc i + n = omega arith in
        rw m (all_join (all_one t) (rw add-one (ih q)))

pub picks-empty : {p : ℕ → Bool} {len from : ℕ} → picks_on p len from ≡ [] → All p false from len
unfolding picks_on
picks-empty {p} {len} {from} q = all-less (omega arith) (empty_of p (len - from) from q)

-- [a, e) is the first run from `from` on, and xs the starts and ends of the others
pub record HeadRun (p : ℕ → Bool) (len from a e : ℕ) (xs : List ℕ) : Type 0 where
  pub run : FirstRun p from len a e
  pub others : edges_on p len e ≡ xs

pub edges-head : {p : ℕ → Bool} {len from a e : ℕ} {xs : List ℕ} → edges_on p len from ≡ a ∷ e ∷ xs → HeadRun p len from a e xs
unfolding edges_on starts_and_ends
edges-head {p} {len} {from} {a} {e} {xs} q = go (runs_from p (len - from) from) refl q (runs-first p (len - from) from len refl)
  where
    go : (rs : List (ℕ × ℕ)) → runs_from p (len - from) from ≡ rs → starts_and_ends rs ≡ a ∷ e ∷ xs → Next p from len rs → HeadRun p len from a e xs
    go [] h q f = let z : ◌≡◌ {A = ℕ} 0 1 = cc in absurd (omega arith)
    go (r ∷ rs) h q f =
        let s : r.0 ≡ a = cc in
        let t : r.1 ≡ e = cc in
        let g : FirstRun p from len a e = rw (s, t) at f in
        record { run = g; others = cc (ap starts_and_ends (runs-next g), ap starts_and_ends h) }

pub edges-empty : {p : ℕ → Bool} {len from : ℕ} → edges_on p len from ≡ [] → All p false from len
unfolding edges_on starts_and_ends
edges-empty {p} {len} {from} q = go (runs_from p (len - from) from) q (runs-first p (len - from) from len refl)
  where
    go : (rs : List (ℕ × ℕ)) → starts_and_ends rs ≡ [] → Next p from len rs → All p false from len
    go [] q f = f
    go (r ∷ rs) q f = let z : ◌≡◌ {A = ℕ} 0 1 = cc in absurd (omega arith)
