-- Laws of slots and a test of each, over any test: what every slot of a range answers, the picks, the runs and their edges. Assumes nothing.
use Rattle.std.proofs.Common.{◌≡◌, ℕ, zero, suc, ◌+◌, ◌-◌, ◌<◌, ◌≤◌, Bool, true, false, cond, not, eqb, List, [], ◌∷◌, ◌++◌, map, length, get_or, take, drop, sym, refl, ap, ◌∙◌, ⊎_elim, true≢false, append-nil, add-zero, add-suc, eq-zero-or-pos, suc-add, eq-or-lt_of_le, zero-add, add-one, arith, length-append, take_at, drop_at, le-ltb, lt-ltb, eq-eqb, ne_eqb, eqb-true, le-leb}
use mathlib.Core.Bool.{beq}
use borrow.Author.Tests.{lt-leb, eqb-false}
use Rattle.format.specs.Bytes.{chosen, one}
use Rattle.format.specs.Mask.{before, edges}
use Rattle.format.specs.Slots.{slots_from, up_to, after, pick, picks_from, count_up, joined, join_run, join_if, runs_from, covered, starts_and_ends, All, Sought, FirstRun}

-- ---- what a test `a == b` of two bools tells

pub same : (a b : Bool) → beq a b ≡ true → a ≡ b
same true true e = refl
same true false e = sym e
same false true e = e
same false false e = refl

pub other : (a b : Bool) → beq a b ≡ false → a ≡ not b
other true true e = e
other true false e = refl
other false true e = refl
other false false e = sym e

-- ---- every slot of [a, e) answers t

pub all_none : {p : ℕ → Bool} {t : Bool} {a e : ℕ} → e ≤ a → All p t a e
all_none k = record { at = λ j l h. absurd (omega arith) }

pub all-less : {p : ℕ → Bool} {t : Bool} {a e e' : ℕ} → e' ≤ e → All p t a e → All p t a e'
all-less k all = record { at = λ j l h. all.at j l (omega arith) }

pub all_one : {p : ℕ → Bool} {t : Bool} {a : ℕ} → p a ≡ t → All p t a (a + 1)
all_one {a = a} here = record { at = λ j l h. let e : j ≡ a = omega arith in rw e here }

pub all_join : {p : ℕ → Bool} {t : Bool} {a m e : ℕ} → All p t a m → All p t m e → All p t a e
all_join {m = m} f g =
    record {
      at = λ j l h. ⊎_elim (λ z. g.at j (omega arith) h) (λ z. f.at j l (omega arith)) (eq-zero-or-pos (m - j));
    }

pub all_more : {p : ℕ → Bool} {t : Bool} {a i : ℕ} → All p t a i → p i ≡ t → All p t a (i + 1)
all_more all here = all_join all (all_one here)

-- without the first slot
pub all_rest : {p : ℕ → Bool} {t : Bool} {a e : ℕ} → All p t a e → All p t (suc a) e
all_rest all = record { at = λ j l h. all.at j (omega arith) h }

-- a run is found by two searches
pub run_of : {p : ℕ → Bool} {from len a e : ℕ} → Sought p from len true a → a < len → Sought p a len false e → FirstRun p from len a e
run_of {p} {from} {len} {a} {e} f l g =
    record {
      low = f.low;
      filled = ⊎_elim (λ (q : a ≡ e). absurd (never q)) (λ lt. lt) (eq-or-lt_of_le g.low);
      high = g.high;
      before = f.passed;
      within = g.passed;
      stops = g.here;
    }
  where
    never : a ≡ e → ⊥
    never q = true≢false (sym (f.here l) ∙ rw q (g.here (omega arith)))

-- ---- a test that is cut

module _ (p : ℕ → Bool) (n j : ℕ) where
  pub up_to-is : j < n → up_to p n j ≡ p j
  up_to-is h = rw (lt-ltb j n h)

  pub up_to-past : n ≤ j → up_to p n j ≡ false
  up_to-past h = rw (le-ltb j n h)

  pub up_to-in : up_to p n j ≡ true → j < n
  up_to-in h = ⊎_elim (λ z. absurd (true≢false (sym h ∙ up_to-past (omega arith)))) (λ z. omega arith) (eq-zero-or-pos (n - j))

  pub after_is : n ≤ j → after p n j ≡ p j
  after_is h = rw (le-leb n j h)

  pub after-not : j < n → after p n j ≡ false
  after-not h = rw (lt-leb n j h)

pub after-after : (p : ℕ → Bool) (e q j : ℕ) → e ≤ q → after (after p e) q j ≡ after p q j
after-after p e q j h =
    ⊎_elim (λ z. after_is (after p e) q j (omega arith) ∙ after_is p e j (omega arith) ∙ sym (after_is p q j (omega arith)))
    (λ z. after-not (after p e) q j (omega arith) ∙ sym (after-not p q j (omega arith))) (eq-zero-or-pos (q - j))

-- ---- the tests of n slots

pub length-slots : (p : ℕ → Bool) (n i : ℕ) → length (slots_from p n i) ≡ n
unfolding slots_from
length-slots p zero i = refl
length-slots p (suc n) i = ap suc (length-slots p n (suc i))

pub slots-cat : (p : ℕ → Bool) (n m i : ℕ) → slots_from p (n + m) i ≡ slots_from p n i ++ slots_from p m (i + n)
unfolding slots_from
slots-cat p zero m i = rw (zero-add, add-zero)
slots-cat p (suc n) m i = rw (suc-add, slots-cat p n m (suc i), suc-add, add-suc)

-- only the tests of its slots count
pub slots-ext : (p q : ℕ → Bool) (n i : ℕ) → ((j : ℕ) → i ≤ j → j < i + n → p j ≡ q j) → slots_from p n i ≡ slots_from q n i
unfolding slots_from
slots-ext p q zero i h = refl
slots-ext p q (suc n) i h = rw (h i (omega arith) (omega arith), slots-ext p q n (suc i) (λ j a l. h j (omega arith) (omega arith)))

-- the test moved by c slots
pub slots-shift : (p : ℕ → Bool) (c n i : ℕ) → slots_from p n (c + i) ≡ slots_from (λ j. p (c + j)) n i
unfolding slots_from
slots-shift p c zero i = refl
slots-shift p c (suc n) i = rw (← add-suc, slots-shift p c n (suc i))

-- the first k of them, and the others
module _ (p : ℕ → Bool) (n i k : ℕ) (h : k ≤ n) where
  parts : slots_from p n i ≡ slots_from p k i ++ slots_from p (n - k) (i + k)
  parts = let e : n ≡ k + (n - k) = omega arith in ap (λ (m : ℕ). slots_from p m i) e ∙ slots-cat p k (n - k) i

  pub take-slots : take k (slots_from p n i) ≡ slots_from p k i
  take-slots = rw parts (take_at (slots_from p k i) _ k (length-slots p k i))

  pub drop-slots : drop k (slots_from p n i) ≡ slots_from p (n - k) (i + k)
  drop-slots = rw parts (drop_at (slots_from p k i) _ k (length-slots p k i))

-- ---- the n numbers from i on

pub length_up : (n i : ℕ) → length (count_up n i) ≡ n
unfolding count_up
length_up zero i = refl
length_up (suc n) i = ap suc (length_up n (suc i))

pub up-cat : (n m i : ℕ) → count_up (n + m) i ≡ count_up n i ++ count_up m (i + n)
unfolding count_up
up-cat zero m i = rw (zero-add, add-zero)
up-cat (suc n) m i = rw (suc-add, up-cat n m (suc i), suc-add, add-suc)

pub get_or-up : (n i j : ℕ) → j < n → get_or (count_up n i) j 0 ≡ i + j
unfolding count_up
get_or-up zero i j h = absurd (omega arith)
get_or-up (suc n) i zero h = sym (add-zero i)
get_or-up (suc n) i (suc j) h = get_or-up n (suc i) j (omega arith) ∙ omega arith

-- the tests are those of the numbers
pub slots-up : (p : ℕ → Bool) (n i : ℕ) → slots_from p n i ≡ map p (count_up n i)
unfolding slots_from count_up
slots-up p zero i = refl
slots-up p (suc n) i = ap (p i ∷◌) (slots-up p n (suc i))

-- ---- the picks

pick-append : (t : Bool) (i : ℕ) (l m : List ℕ) → pick t i (l ++ m) ≡ pick t i l ++ m
pick-append true i l m = refl
pick-append false i l m = refl

-- the picks of n + m slots are those of the first n and those of the m after them
pub picks-cat : (p : ℕ → Bool) (n m i : ℕ) → picks_from p (n + m) i ≡ picks_from p n i ++ picks_from p m (i + n)
unfolding picks_from
picks-cat p zero m i = rw (zero-add, add-zero)
picks-cat p (suc n) m i =
    let ih : picks_from p (n + m) (suc i) ≡ picks_from p n (suc i) ++ picks_from p m (i + suc n) =
    rw (add-suc, ← suc-add) (picks-cat p n m (suc i)) in
    rw suc-add (rw ih (pick-append (p i) i _ _))

-- their count, and that of one slot more
pub count-cat : (p : ℕ → Bool) (n m i : ℕ) → length (picks_from p (n + m) i) ≡ length (picks_from p n i) + length (picks_from p m (i + n))
count-cat p n m i = rw (picks-cat, length-append)

pub count-one : (p : ℕ → Bool) (i : ℕ) → length (picks_from p 1 i) ≡ one (p i)
unfolding picks_from
count-one p i = go (p i)
  where
    go : (t : Bool) → length (pick t i []) ≡ one t
    go true = refl
    go false = refl

pub count-le : (p : ℕ → Bool) (n i : ℕ) → length (picks_from p n i) ≤ n
unfolding picks_from
count-le p zero i = omega arith
count-le p (suc n) i = go (p i) (count-le p n (suc i))
  where
    go : (t : Bool) → length (picks_from p n (suc i)) ≤ n → length (pick t i (picks_from p n (suc i))) ≤ suc n
    go true h = omega arith
    go false h = omega arith

-- only the tests of its slots count
pub picks-ext : (p q : ℕ → Bool) (n i : ℕ) → ((j : ℕ) → i ≤ j → j < i + n → p j ≡ q j) → picks_from p n i ≡ picks_from q n i
unfolding picks_from
picks-ext p q zero i h = refl
picks-ext p q (suc n) i h = rw (h i (omega arith) (omega arith), picks-ext p q n (suc i) (λ j a l. h j (omega arith) (omega arith)))

pub picks-none : (p : ℕ → Bool) (n i : ℕ) → All p false i (i + n) → picks_from p n i ≡ []
unfolding picks_from
picks-none p zero i all = refl
picks-none p (suc n) i all =
    rw (all.at i (omega arith) (omega arith), picks-none p n (suc i) (record { at = λ j a l. all.at j (omega arith) (omega arith) }))

pub picks-all : (p : ℕ → Bool) (n i : ℕ) → All p true i (i + n) → picks_from p n i ≡ count_up n i
unfolding picks_from count_up
picks-all p zero i all = refl
picks-all p (suc n) i all =
    rw (all.at i (omega arith) (omega arith), picks-all p n (suc i) (record { at = λ j a l. all.at j (omega arith) (omega arith) }))

-- a test cut at len picks nothing from there on
pub picks-up_to : (p : ℕ → Bool) (len n i : ℕ) → i ≤ len → len ≤ i + n → picks_from (up_to p len) n i ≡ picks_from p (len - i) i
picks-up_to p len n i l h = go (len - i) (n - (len - i)) (omega arith) (omega arith)
  where
    go : (m r : ℕ) → n ≡ m + r → i + m ≡ len → picks_from (up_to p len) n i ≡ picks_from p m i
    go m r e f =
        let past : picks_from (up_to p len) r (i + m) ≡ [] = picks-none _ r (i + m) (record { at = λ j a k. up_to-past p len j (omega arith) }) in
        rw (e, picks-cat, past, append-nil) (picks-ext _ _ m i (λ j a k. up_to-is p len j (omega arith)))

-- the numbers chosen below n are the picks of the first n slots
one-pick : (p : ℕ → Bool) (n : ℕ) → cond (p n) (n ∷ []) [] ≡ picks_from p 1 n
unfolding picks_from
one-pick p n = go (p n)
  where
    go : (t : Bool) → cond t (n ∷ []) [] ≡ pick t n []
    go true = refl
    go false = refl

pub chosen-picks : (p : ℕ → Bool) (n : ℕ) → chosen p n ≡ picks_from p n 0
unfolding chosen
chosen-picks p zero = sym (picks-none p 0 0 (all_none (omega arith)))
chosen-picks p (suc n) = rw (← add-one n, picks-cat, zero-add, chosen-picks p n, one-pick p n)

-- ---- the runs

-- the first of the runs is not empty and starts at i or after
abbrev Ahead : ℕ → List (ℕ × ℕ) → Type 0
Ahead i [] = Unit {0}
Ahead i (r ∷ rs) = (i ≤ r.0) × (r.0 < r.1)

ahead-join : (i : ℕ) (rs : List (ℕ × ℕ)) → Ahead (suc i) rs → Ahead i (join_run i rs)
ahead-join i [] h = omega arith
ahead-join i (r ∷ rs) h = go (eqb r.0 (suc i))
  where
    go : (t : Bool) → Ahead i (joined t i r rs)
    go true = omega arith
    go false = omega arith

ahead : (p : ℕ → Bool) (n i : ℕ) → Ahead i (runs_from p n i)
unfolding runs_from
ahead p zero i = tt
ahead p (suc n) i = go (p i) (runs_from p n (suc i)) (ahead p n (suc i))
  where
    later : (rs : List (ℕ × ℕ)) → Ahead (suc i) rs → Ahead i rs
    later [] h = tt
    later (r ∷ rs) h = omega arith

    go : (t : Bool) (rs : List (ℕ × ℕ)) → Ahead (suc i) rs → Ahead i (join_if t i rs)
    go true rs h = ahead-join i rs h
    go false rs h = later rs h

-- the runs cover the picks
cover-join : (i : ℕ) (rs : List (ℕ × ℕ)) → Ahead (suc i) rs → covered (join_run i rs) ≡ i ∷ covered rs
unfolding covered count_up
cover-join i [] h = let e : suc i - i ≡ 1 = omega arith in rw e
cover-join i (r ∷ rs) h = go (eqb r.0 (suc i)) refl
  where
    go : (t : Bool) → eqb r.0 (suc i) ≡ t → covered (joined t i r rs) ≡ i ∷ covered (r ∷ rs)
    go true q =
        let s : r.0 ≡ suc i = eqb-true _ _ q in
        let e : r.1 - i ≡ suc (r.1 - r.0) = omega arith in
        rw (e, s)
    go false q = let e : suc i - i ≡ 1 = omega arith in rw e

pub runs-picks : (p : ℕ → Bool) (n i : ℕ) → covered (runs_from p n i) ≡ picks_from p n i
unfolding covered picks_from runs_from
runs-picks p zero i = refl
runs-picks p (suc n) i = rw (← runs-picks p n (suc i)) (go (p i))
  where
    go : (t : Bool) → covered (join_if t i (runs_from p n (suc i))) ≡ pick t i (covered (runs_from p n (suc i)))
    go true = cover-join i (runs_from p n (suc i)) (ahead p n (suc i))
    go false = refl

-- only the tests of its slots count
pub runs-ext : (p q : ℕ → Bool) (n i : ℕ) → ((j : ℕ) → i ≤ j → j < i + n → p j ≡ q j) → runs_from p n i ≡ runs_from q n i
unfolding runs_from
runs-ext p q zero i h = refl
runs-ext p q (suc n) i h = rw (h i (omega arith) (omega arith), runs-ext p q n (suc i) (λ j a l. h j (omega arith) (omega arith)))

-- ---- a scan's answer is the next run

-- Below, m slots from i on are k slots up to a or e and the n slots after them.
-- slots that fail are passed over
skip : (p : ℕ → Bool) (k m n i a : ℕ) → m ≡ k + n → a ≡ i + k → All p false i a → runs_from p m i ≡ runs_from p n a
unfolding runs_from
skip p zero m n i a em ea all =
    let e₁ : m ≡ n = omega arith in
    let e₂ : a ≡ i = omega arith in
    rw (e₁, e₂)
skip p (suc k) m n i a em ea all =
    let e : m ≡ suc (k + n) = omega arith in
    rw (e, all.at i (omega arith) (omega arith))
    (skip p k (k + n) n (suc i) a refl (omega arith) (all_rest all))

-- a slot whose next one fails is a run's last
apart : (i : ℕ) (rs : List (ℕ × ℕ)) → Ahead (suc (suc i)) rs → join_run i rs ≡ (i, suc i) ∷ rs
apart i [] h = refl
apart i (r ∷ rs) h = rw (ne_eqb r.0 (suc i) (omega arith))

alone : (p : ℕ → Bool) (n i : ℕ) → (0 < n → p (suc i) ≡ false) → join_run i (runs_from p n (suc i)) ≡ (i, suc i) ∷ runs_from p n (suc i)
unfolding runs_from
alone p zero i stop = refl
alone p (suc n) i stop = rw (stop (omega arith)) (apart i _ (ahead p n (suc (suc i))))

-- slots that pass, up to one that fails or the end, are one run
whole : (p : ℕ → Bool) (k m n i e : ℕ) → m ≡ suc k + n → e ≡ i + suc k → All p true i e → (0 < n → p e ≡ false) → runs_from p m i ≡ (i, e) ∷ runs_from p n e
unfolding runs_from
whole p zero m n i e em ee all stop =
    let e₁ : m ≡ suc n = omega arith in
    let e₂ : e ≡ suc i = omega arith in
    rw (e₁, e₂, all.at i (omega arith) (omega arith)) (alone p n i (λ h. rw (← e₂) (stop h)))
whole p (suc k) m n i e em ee all stop =
    let e₁ : m ≡ suc (suc k + n) = omega arith in
    let ih = whole p k (suc k + n) n (suc i) e refl (omega arith) (all_rest all) stop in
    rw (e₁, all.at i (omega arith) (omega arith), ih, eq-eqb (suc i) (suc i) refl)

-- the runs from `from` on are the first one, and the runs after its end
pub runs-next : {p : ℕ → Bool} {from len a e : ℕ} → FirstRun p from len a e → runs_from p (len - from) from ≡ (a, e) ∷ runs_from p (len - e) e
runs-next {p} {from} {len} {a} {e} f =
    let l = f.low in
    let g = f.filled in
    let h = f.high in
    skip p (a - from) (len - from) (len - a) from a (omega arith) (omega arith) f.before
    ∙ whole p (e - a - 1) (len - a) (len - e) a e (omega arith) (omega arith) f.within (λ r. f.stops (omega arith))

pub runs_none : {p : ℕ → Bool} {from len : ℕ} → All p false from len → runs_from p (len - from) from ≡ []
unfolding runs_from
runs_none {p} {from} {len} all = skip p (len - from) (len - from) 0 from (from + (len - from)) (omega arith) refl (record { at = λ j l h. all.at j l (omega arith) })

-- and the other way: the first of the runs is the first maximal run, and where there is none every slot fails
abbrev pub Next : (ℕ → Bool) → ℕ → ℕ → List (ℕ × ℕ) → Type 0
Next p from len [] = All p false from len
Next p from len (r ∷ rs) = FirstRun p from len r.0 r.1

pub runs-first : (p : ℕ → Bool) (n from len : ℕ) → n ≡ len - from → Next p from len (runs_from p n from)
unfolding runs_from
runs-first p zero from len e = all_none (omega arith)
runs-first p (suc n) from len e = go (p from) refl (runs_from p n (suc from)) (runs-first p n (suc from) len (omega arith))
  where
    -- slot `from` passes, and the slot after it does not
    single : p from ≡ true → (suc from < len → p (suc from) ≡ false) → FirstRun p from len from (suc from)
    single q stop =
        record {
          low = omega arith;
          filled = omega arith;
          high = omega arith;
          before = all_none (omega arith);
          within = rw (← add-one) (all_one q);
          stops = stop;
        }

    joins : (t : Bool) (r : ℕ × ℕ) (rs : List (ℕ × ℕ)) → eqb r.0 (suc from) ≡ t → p from ≡ true → FirstRun p (suc from) len r.0 r.1 → Next p from len (joined t from r rs)
    joins true r rs h q f =
        let s : r.0 ≡ suc from = eqb-true _ _ h in
        record {
          low = omega arith;
          filled = omega (arith, f.filled);
          high = f.high;
          before = all_none (omega arith);
          within = all_join (all_one q) (rw (add-one, ← s) f.within);
          stops = f.stops;
        }
    joins false r rs h q f =
        let ne = eqb-false r.0 (suc from) h in
        single q (λ l. f.before.at (suc from) (omega arith) (omega (arith, f.low, ne)))

    go : (t : Bool) → p from ≡ t → (rs : List (ℕ × ℕ)) → Next p (suc from) len rs → Next p from len (join_if t from rs)
    go true q [] all = single q (λ l. all.at (suc from) (omega arith) l)
    go true q (r ∷ rs) f = joins (eqb r.0 (suc from)) r rs refl q f
    go false q [] all = all_join (all_one q) (rw add-one all)
    go false q (r ∷ rs) f =
        record {
          low = omega (arith, f.low);
          filled = f.filled;
          high = f.high;
          before = all_join (all_one q) (rw add-one f.before);
          within = f.within;
          stops = f.stops;
        }

-- ---- the edges are the starts and ends of the runs

-- the places from i on where the selection begins or stops, n slots before its end, where t says whether slot i - 1 is in it
changes : Bool → (ℕ → Bool) → ℕ → ℕ → List ℕ
changes t p zero i = pick t i []
changes t p (suc n) i = pick (not (beq t (p i))) i (changes (p i) p n (suc i))

-- they are what `edges` picks: slot `len` is past the last
module _ (p : ℕ → Bool) (len : ℕ) where
  abbrev edge : ℕ → Bool
  edge i = not (beq (before p i) (up_to p len i))

  edge-changes : (n i : ℕ) → i + n ≡ len → picks_from edge (suc n) i ≡ changes (before p i) p n i
  unfolding picks_from changes before
  edge-changes zero i e = rw (up_to-past p len i (omega arith)) (ap (λ (t : Bool). pick t i []) (same (before p i)))
    where
      same : (t : Bool) → not (beq t false) ≡ t
      same true = refl
      same false = refl
  edge-changes (suc n) i e =
      rw (up_to-is p len i (omega arith)) (ap (pick (not (beq (before p i) (p i))) i) (edge-changes n (suc i) (omega arith)))

-- a run that starts at i + 1 and is joined to i keeps its end and what follows
join-twice : (i : ℕ) (rs : List (ℕ × ℕ)) (xs : List ℕ) → suc i ∷ xs ≡ starts_and_ends (join_run (suc i) rs) → i ∷ xs ≡ starts_and_ends (join_run i (join_run (suc i) rs))
unfolding starts_and_ends
join-twice i [] xs e = rw (eq-eqb (suc i) (suc i) refl) cc
join-twice i (r ∷ rs) xs e = go (eqb r.0 (suc (suc i))) e
  where
    go : (t : Bool) → suc i ∷ xs ≡ starts_and_ends (joined t (suc i) r rs) → i ∷ xs ≡ starts_and_ends (join_run i (joined t (suc i) r rs))
    go true q = rw (eq-eqb (suc i) (suc i) refl) cc
    go false q = rw (eq-eqb (suc i) (suc i) refl) cc

-- where the slot before is not in the selection, and where it is
changes-runs : (p : ℕ → Bool) (n i : ℕ)
    → (changes false p n i ≡ starts_and_ends (runs_from p n i)) × (i ∷ changes true p n (suc i) ≡ starts_and_ends (join_run i (runs_from p n (suc i))))
unfolding changes runs_from starts_and_ends
changes-runs p zero i = (refl, refl)
changes-runs p (suc n) i = (begins (p i) (changes-runs p n i).1 (changes-runs p n (suc i)).0, stops (p (suc i)) (changes-runs p n (suc i)).1 (changes-runs p n (suc (suc i))).0)
  where
    begins : (t : Bool) → i ∷ changes true p n (suc i) ≡ starts_and_ends (join_run i (runs_from p n (suc i)))
        → changes false p n (suc i) ≡ starts_and_ends (runs_from p n (suc i))
        → pick (not (beq false t)) i (changes t p n (suc i)) ≡ starts_and_ends (join_if t i (runs_from p n (suc i)))
    begins true a b = a
    begins false a b = b

    stops : (t : Bool) → suc i ∷ changes true p n (suc (suc i)) ≡ starts_and_ends (join_run (suc i) (runs_from p n (suc (suc i))))
        → changes false p n (suc (suc i)) ≡ starts_and_ends (runs_from p n (suc (suc i)))
        → i ∷ pick (not (beq true t)) (suc i) (changes t p n (suc (suc i))) ≡ starts_and_ends (join_run i (join_if t (suc i) (runs_from p n (suc (suc i)))))
    stops true a b = join-twice i (runs_from p n (suc (suc i))) (changes true p n (suc (suc i))) a
    stops false a b = rw (apart i (runs_from p n (suc (suc i))) (ahead p n (suc (suc i)))) (ap (λ (l : List ℕ). i ∷ suc i ∷ l) b)

pub edges-runs : (p : ℕ → Bool) (n : ℕ) → edges p n ≡ starts_and_ends (runs_from p n 0)
unfolding edges before
edges-runs p n = chosen-picks _ (suc n) ∙ edge-changes p n n 0 (zero-add n) ∙ (changes-runs p n 0).0
