-- Laws by which a loop follows the definitions of Bytes: one step more, at `n + 1` as code writes it, and what the whole says of each item. Assumes nothing.
use Rattle.std.proofs.Common.{◌≡◌, ℕ, zero, suc, ◌+◌, ◌-◌, ◌<◌, ◌≤◌, min, Bool, true, false, cond, ◌&&◌, ◌||◌, ◌⊎◌, List, [], ◌∷◌, ◌++◌, length, get_or, sym, refl, ap, ◌∙◌, inl, inr, true≢false, append_assoc, append-nil, add-zero, add_assoc, eq-or-lt_of_le, zero-add, add-one, arith, length-append, length-drop, le-ltb, lt-ltb, le-leb}
use mathlib.Core.Bool.{or-false, or-true}
use native.Mathlib.Nat.{min-zero}
use native.Mathlib.Decide.{dec_lt, dec_le}
use borrow.Author.Tests.{lt-leb}
use lib.ListN.{get_or-append, get_or-eq_default}
use lib.Seq.{get_or_at}
use Rattle.format.specs.Bytes.{table, join, any_below, chosen, sum_below, over, one, count_if, within}
use Rattle.format.specs.declared.Kind.TheVariants.{Unknown}
use Rattle.format.specs.Node.{kinds, kind_of, kind, kids, node_count, Ancestor, ancestor, closed, one_less, ancestors, innermost, parent}
use Rattle.format.specs.Kept.{passed_on, kept_from, kept_before, kept_rows, KeptNode, kept_node, kept_part}
use Rattle.format.specs.Verdict.{wrong_size, wrong_mark, wrong_table, wrong_fields, wrong_tree, wrong_rows, wrong_buffers, wrong_content}
use Rattle.format.specs.Verdict.{wrong_nulls, wrong_root, Condition, condition, conditions, first_of, journal_verdict, mask_verdict}

-- one step more
pub sum_more : (f : ℕ → ℕ) (n : ℕ) → sum_below f (n + 1) ≡ sum_below f n + f n
unfolding sum_below
sum_more f n = rw add-one

pub any-hit : (p : ℕ → Bool) (n : ℕ) → p n ≡ true → any_below p (n + 1) ≡ true
unfolding any_below
any-hit p n h = rw (add-one, h) (or-true (any_below p n))

pub any-miss : (p : ℕ → Bool) (n : ℕ) → p n ≡ false → any_below p (n + 1) ≡ any_below p n
unfolding any_below
any-miss p n h = rw (add-one, h) (or-false (any_below p n))

pub chosen-hit : (p : ℕ → Bool) (n : ℕ) → p n ≡ true → chosen p (n + 1) ≡ chosen p n ++ (n ∷ [])
unfolding chosen
chosen-hit p n h = rw (add-one, h)

pub chosen-miss : (p : ℕ → Bool) (n : ℕ) → p n ≡ false → chosen p (n + 1) ≡ chosen p n
unfolding chosen
chosen-miss p n h = rw (add-one, h) (append-nil (chosen p n))

pub count-hit : (p : ℕ → Bool) (n : ℕ) → p n ≡ true → length (chosen p (n + 1)) ≡ length (chosen p n) + 1
count-hit p n h = simp (chosen-hit p n h, length-append)

pub count-miss : (p : ℕ → Bool) (n : ℕ) → p n ≡ false → length (chosen p (n + 1)) ≡ length (chosen p n)
count-miss p n h = rw (chosen-miss p n h)

-- a test that some number below n passes, and one that none does
pub any_found : (p : ℕ → Bool) (n i : ℕ) → i < n → p i ≡ true → any_below p n ≡ true
unfolding any_below
any_found p zero i l h = absurd (omega arith)
any_found p (suc n) i l h = go (any_found p n i) (eq-or-lt_of_le l)
  where
    go : (i < n → p i ≡ true → any_below p n ≡ true) → (suc i ≡ suc n) ⊎ (suc i < suc n) → (any_below p n || p n) ≡ true
    go ih (inl e) = let q : n ≡ i = omega arith in rw (q, h) (or-true (any_below p i))
    go ih (inr m) = rw (ih (omega arith) h)

pub any_none : (p : ℕ → Bool) (n i : ℕ) → i < n → any_below p n ≡ false → p i ≡ false
any_none p n i l h = go (p i) refl
  where
    go : (b : Bool) → p i ≡ b → p i ≡ false
    go true e = absurd (true≢false (sym (any_found p n i l e) ∙ h))
    go false e = e

pub none_any : (p : ℕ → Bool) (n : ℕ) → ((i : ℕ) → i < n → p i ≡ false) → any_below p n ≡ false
unfolding any_below
none_any p zero h = refl
none_any p (suc n) h = rw (none_any p n (λ i l. h i (omega arith)), h n (omega arith))

module _ {A : Type 0} where
  pub table_more : (f : ℕ → A) (n : ℕ) → table f (n + 1) ≡ table f n ++ (f n ∷ [])
  unfolding table
  table_more f n = rw add-one

  pub length-table : (f : ℕ → A) (n : ℕ) → length (table f n) ≡ n
  unfolding table
  length-table f zero = refl
  length-table f (suc n) = simp (length-append, length-table f n, add-one)

  pub get_or-table : (f : ℕ → A) (n i : ℕ) (d : A) → i < n → get_or (table f n) i d ≡ f i
  unfolding table
  get_or-table f zero i d l = absurd (omega arith)
  get_or-table f (suc n) i d l = go (get_or-table f n i d) (eq-or-lt_of_le l)
    where
      go : (i < n → get_or (table f n) i d ≡ f i) → (suc i ≡ suc n) ⊎ (suc i < suc n) → get_or (table f n ++ (f n ∷ [])) i d ≡ f i
      go ih (inl e) = let q : i ≡ n = omega arith in rw q (get_or_at (table f n) (f n) [] d n (length-table f n))
      go ih (inr m) = get_or-append (table f n) (f n ∷ []) d i (rw (length-table f n) (omega arith)) ∙ ih (omega arith)

  pub join-append : (xs ys : List (List A)) → join (xs ++ ys) ≡ join xs ++ join ys
  unfolding join
  join-append [] ys = refl
  join-append (x ∷ xs) ys = rw (join-append xs ys) (sym (append_assoc x (join xs) (join ys)))

-- a buffer whose front is written keeps its length
pub length_over : (new old : List ℕ) → length new ≤ length old → length (over new old) ≡ length old
unfolding over
length_over new old h = simp (length-append, length-drop) (omega arith)

-- a number above 14 is no kind
pub unknown-above : (n : ℕ) → 14 < n → kind_of n ≡ Unknown
unfolding kind_of
unknown-above n h = get_or-eq_default kinds Unknown {n = n} h

-- what acceptance tells: each condition by itself is false
pub none_first : (n : ℕ) (b : Bool) (cs : List Condition) → first_of (condition (suc n) b ∷ cs) ≡ 0 → (b ≡ false) × (first_of cs ≡ 0)
unfolding first_of
none_first n true cs e = absurd (omega arith)
none_first n false cs e = (refl, e)

pub record Accepted (b : List ℕ) : Type 0 where
  pub size : wrong_size b ≡ false
  pub marked : wrong_mark b ≡ false
  pub tabled : wrong_table b ≡ false
  pub fields : wrong_fields b ≡ false
  pub tree : wrong_tree b ≡ false
  pub rowed : wrong_rows b ≡ false
  pub buffers : wrong_buffers b ≡ false
  pub content : wrong_content b ≡ false
  pub nulls : wrong_nulls b ≡ false

-- a pack's own conditions, and what is left of a list that starts with them
own : (b : List ℕ) (rest : List Condition) → first_of (conditions b ++ rest) ≡ 0 → Accepted b × (first_of rest ≡ 0)
unfolding conditions
own b rest e1 =
    let (h1, e2) = none_first _ _ _ e1 in
    let (h2, e3) = none_first _ _ _ e2 in
    let (h3, e4) = none_first _ _ _ e3 in
    let (h4, e5) = none_first _ _ _ e4 in
    let (h5, e6) = none_first _ _ _ e5 in
    let (h6, e7) = none_first _ _ _ e6 in
    let (h7, e8) = none_first _ _ _ e7 in
    let (h8, e9) = none_first _ _ _ e8 in
    let (h20, left) = none_first _ _ _ e9 in
    (record { size = h1; marked = h2; tabled = h3; fields = h4; tree = h5; rowed = h6; buffers = h7; content = h8; nulls = h20 }, left)

pub accepted : (b : List ℕ) → journal_verdict b ≡ 0 → Accepted b
unfolding journal_verdict
accepted b e = (own b [] (ap first_of (append-nil (conditions b)) ∙ e)).0

pub accepted-mask : (b : List ℕ) → mask_verdict b ≡ 0 → Accepted b × (wrong_root b ≡ false)
unfolding mask_verdict
accepted-mask b e =
    let (a, r) = own b (condition 9 (wrong_root b) ∷ []) e in
    (a, (none_first _ _ _ r).0)

-- a node's parent stands before it
BelowAll : ℕ → List Ancestor → Type 0
BelowAll n [] = Unit {0}
BelowAll n (ancestor m k ∷ s) = (m < n) × BelowAll n s

below_more : (n : ℕ) (s : List Ancestor) → BelowAll n s → BelowAll (suc n) s
unfolding BelowAll
below_more n [] h = tt
below_more n (ancestor m k ∷ s) h = (omega arith, below_more n s h.1)

below-closed : (n : ℕ) (s : List Ancestor) → BelowAll n s → BelowAll n (closed s)
unfolding BelowAll closed
below-closed n [] h = tt
below-closed n (ancestor m zero ∷ s) h = below-closed n s h.1
below-closed n (ancestor m (suc k) ∷ s) h = h

below_less : (n : ℕ) (s : List Ancestor) → BelowAll n s → BelowAll n (one_less s)
unfolding BelowAll one_less
below_less n [] h = tt
below_less n (ancestor m zero ∷ s) h = h
below_less n (ancestor m (suc k) ∷ s) h = h

below-ancestors : (b : List ℕ) (i : ℕ) → BelowAll i (ancestors b i)
unfolding BelowAll ancestors
below-ancestors b zero = tt
below-ancestors b (suc i) =
    below-closed (suc i) (ancestor i (kids b i) ∷ one_less (ancestors b i))
    (omega arith, below_more i (one_less (ancestors b i)) (below_less i (ancestors b i) (below-ancestors b i)))

below-innermost : (i : ℕ) (s : List Ancestor) → BelowAll (suc i) s → innermost s < suc i
unfolding BelowAll innermost
below-innermost i [] h = omega arith
below-innermost i (ancestor m k ∷ s) h = h.0

pub parent-before : (b : List ℕ) (i : ℕ) → parent b (suc i) < suc i
unfolding parent
parent-before b i = below-innermost i (ancestors b (suc i)) (below-ancestors b (suc i))

-- the kept rows of the root and of a child: the rule by which a walk over the nodes follows them
module _ (b root : List ℕ) where
  length_before : (n : ℕ) → length (kept_before b root n) ≡ n
  unfolding kept_before
  length_before zero = refl
  length_before (suc n) = simp (length-append, length_before n, add-one)

  kept-before : (n i : ℕ) → i < n → get_or (kept_before b root n) i [] ≡ kept_rows b root i
  unfolding kept_before kept_rows
  kept-before zero i l = absurd (omega arith)
  kept-before (suc n) i l = go (kept-before n i) (eq-or-lt_of_le l)
    where
      go : (i < n → get_or (kept_before b root n) i [] ≡ kept_rows b root i) → (suc i ≡ suc n) ⊎ (suc i < suc n)
          → get_or (kept_before b root n ++ (kept_from b root n (kept_before b root n) ∷ [])) i [] ≡ kept_rows b root i
      go ih (inl e) = let q : i ≡ n = omega arith in rw q (get_or_at (kept_before b root n) _ [] [] n (length_before n))
      go ih (inr m) = get_or-append (kept_before b root n) _ [] i (rw (length_before n) (omega arith)) ∙ ih (omega arith)

  pub kept-root : kept_rows b root 0 ≡ root
  unfolding kept_rows kept_from
  kept-root = refl

  pub kept-child : (i : ℕ) → kept_rows b root (suc i) ≡ passed_on (kind b (parent b (suc i))) b (parent b (suc i)) (suc i) (kept_rows b root (parent b (suc i)))
  unfolding kept_rows kept_from
  kept-child i = rw (kept-before (suc i) (parent b (suc i)) (parent-before b i))

  pub kept_at : (i : ℕ) (d : KeptNode) → i < node_count b → get_or (kept_part b root) i d ≡ kept_node b i (kept_rows b root i)
  unfolding kept_part
  kept_at i d l = get_or-table _ (node_count b) i d l

-- one number more, chosen or not
length-chosen : (p : ℕ → Bool) (n : ℕ) → length (chosen p (suc n)) ≡ length (chosen p n) + one (p n)
unfolding chosen
length-chosen p n = rw (length-append (chosen p n)) (ap (length (chosen p n) +◌) (go (p n)))
  where
    go : (t : Bool) → length (cond t (n ∷ []) []) ≡ one t
    go true = refl
    go false = refl

count_if-append : (q : ℕ → Bool) (xs ys : List ℕ) → count_if q (xs ++ ys) ≡ count_if q xs + count_if q ys
unfolding count_if
count_if-append q [] ys = sym (zero-add (count_if q ys))
count_if-append q (x ∷ xs) ys = rw (count_if-append q xs ys) (sym (add_assoc (one (q x)) (count_if q xs) (count_if q ys)))

count_if-chosen : (p q : ℕ → Bool) (n : ℕ) → count_if q (chosen p (suc n)) ≡ count_if q (chosen p n) + one (p n && q n)
unfolding chosen count_if
count_if-chosen p q n = rw (count_if-append q (chosen p n)) (ap (count_if q (chosen p n) +◌) (go (p n)))
  where
    go : (t : Bool) → count_if q (cond t (n ∷ []) []) ≡ one (t && q n)
    go true = add-zero (one (q n))
    go false = refl

-- of the chosen numbers, those that k brings into [s, e) are as many as are chosen below e - k and not below s - k: so the kept rows of
-- a run are counted by two prefix counts
module _ (p : ℕ → Bool) (k s e : ℕ) (h : s ≤ e) where
  before-run : (n : ℕ) → k + n < s → within k s e n ≡ false
  unfolding within
  before-run n l = rw (lt-leb s (k + n) l)

  after_run : (n : ℕ) → e ≤ k + n → within k s e n ≡ false
  unfolding within
  after_run n l = rw (le-leb s (k + n) (omega arith), le-ltb (k + n) e l)

  in-run : (n : ℕ) → s ≤ k + n → k + n < e → within k s e n ≡ true
  unfolding within
  in-run n l m = rw (le-leb s (k + n) l, lt-ltb (k + n) e m)

  gains : (t : Bool) {w : Bool} → w ≡ true → one (t && w) ≡ one t
  gains true q = rw q
  gains false q = refl

  gains-none : (t : Bool) {w : Bool} → w ≡ false → one (t && w) ≡ 0
  gains-none true q = rw q
  gains-none false q = refl

  count-step : (n : ℕ)
      → count_if (within k s e) (chosen p n) + length (chosen p (min (s - k) n)) ≡ length (chosen p (min (e - k) n))
      → Dec (k + n < e) → Dec (s ≤ k + n)
      → count_if (within k s e) (chosen p (suc n)) + length (chosen p (min (s - k) (suc n))) ≡ length (chosen p (min (e - k) (suc n)))
  count-step n ih (no past) d =
      let m : min (s - k) (suc n) ≡ min (s - k) n = omega arith in
      let m' : min (e - k) (suc n) ≡ min (e - k) n = omega arith in
      let g = gains-none (p n) (after_run n (omega arith)) in
      rw (count_if-chosen p (within k s e) n, m, m') (omega arith)
  count-step n ih (yes l) (no early) =
      let m : min (s - k) (suc n) ≡ suc n = omega arith in
      let m' : min (e - k) (suc n) ≡ suc n = omega arith in
      let u : min (s - k) n ≡ n = omega arith in
      let u' : min (e - k) n ≡ n = omega arith in
      let g = gains-none (p n) (before-run n (omega arith)) in
      let ih' = rw (u, u') at ih in
      rw (count_if-chosen p (within k s e) n, m, m', length-chosen p n) (omega arith)
  count-step n ih (yes l) (yes from) =
      let m : min (s - k) (suc n) ≡ min (s - k) n = omega arith in
      let m' : min (e - k) (suc n) ≡ suc n = omega arith in
      let u' : min (e - k) n ≡ n = omega arith in
      let g = gains (p n) (in-run n from l) in
      let ih' = rw u' at ih in
      rw (count_if-chosen p (within k s e) n, m, m', length-chosen p n) (omega arith)

  pub count-within : (n : ℕ) → count_if (within k s e) (chosen p n) + length (chosen p (min (s - k) n)) ≡ length (chosen p (min (e - k) n))
  unfolding count_if chosen
  count-within zero = simp min-zero
  count-within (suc n) = count-step n (count-within n) (dec_lt (k + n) e) (dec_le s (k + n))
