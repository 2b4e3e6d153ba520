-- An accepted pack is sound: the facts of specs/Accepted, from the verdict. Assumes nothing.
use Rattle.std.proofs.Common.{◌≡◌, ℕ, zero, suc, ◌+◌, ◌-◌, ◌*◌, ◌^◌, ◌<◌, ◌≤◌, Bool, true, false, not, ◌&&◌, ◌||◌, eqb, ltb, leb, ◌⊎◌, List, [], ◌∷◌, length, get_or, sym, refl, ap, ◌∙◌, inl, inr, ⊎_elim, add-zero, add-suc, eq-or-lt_of_le, arith, lit≤, ltb-false, le-ltb, lt-ltb, eq-eqb, ne_eqb, eqb-true, le-leb, leb-false, leb-true}
use mathlib.Core.Bool.{or-true, or-false, false≢true}
use mathlib.Core.Logic.{dite}
use native.Mathlib.Decide.{ℕ_discrete}
use borrow.Author.Tests.{not-false}
use Rattle.format.specs.declared.Kind.{Kind}
use Rattle.format.specs.declared.Kind.TheVariants.{Bits, Native, Fixed, Bytes32, Bytes64, Views, Lists32, Lists64, Runs, Struct, Union, Dictionary, Nested32, Nested64, Unknown}
use Rattle.format.specs.Bytes.{any_below, negative, bytes_for}
use Rattle.format.specs.Node.{node_count, table_start, root_rows, carries_counts, null_count, last_field, places, has_no_bitmap, no_bitmap, validity_at, first_at, kind_number, kind_of, kind, of_kind, param, rows, skip, kids, second_at, second_length}
use Rattle.format.specs.Node.{first_number, second_number, run_end, run_start, valid, parent, depth, child, data_buffer, Ancestor, ancestor, closed, one_less, ancestors, innermost}
use Rattle.format.specs.Verdict.{pack_limit, wrong_size, wrong_table, wrong_fields, wrong_tree, wrong_rows, wrong_buffers, wrong_content, wrong_nulls, wrong_root, journal_verdict, mask_verdict}
use Rattle.format.specs.Verdict.{bad_fields, misused, layout, one_of, not_closed, empty, bad_data_buffer, bad_child_rows, bad_buffers, first_size, second_size, bad_content, bad_runs, bad_offsets, bad_view, bad_long, bad_short, bad_range, view_field}
use Rattle.format.specs.Accepted.{OneChild, Shares, Carries, Nests, Inner, shared, by_runs, carried, by_spans, DataBuffer, Shape, Fields, InBody, CountsNulls, Offsets, Spans, ViewLies, RunEnds, Sound, SoundMask}
use Rattle.format.specs.Accepted as is
use Rattle.format.proofs.Laws.{any_none, Accepted, accepted, accepted-mask, parent-before}

-- Tests that came out false

pub or_left : (a b : Bool) → (a || b) ≡ false → a ≡ false
or_left true b e = e
or_left false b e = refl

pub or_right : (a b : Bool) → (a || b) ≡ false → b ≡ false
or_right true true e = e
or_right true false e = refl
or_right false b e = e

pub and_right : (a b : Bool) → (a && b) ≡ false → a ≡ true → b ≡ false
and_right true b e h = e
and_right false true e h = sym h
and_right false false e h = refl

-- tests that came out true
pub and_first : (a b : Bool) → (a && b) ≡ true → a ≡ true
and_first true b e = refl
and_first false b e = e

pub and_second : (a b : Bool) → (a && b) ≡ true → b ≡ true
and_second true b e = e
and_second false b e = absurd (false≢true e)

-- a test of all nodes below the root
pub below_root : (p : ℕ → Bool) (n i : ℕ) → 0 < i → i < n → any_below (λ k. ltb 0 k && p k) n ≡ false → p i ≡ false
below_root p n i some h e = and_right (ltb 0 i) (p i) (any_none (λ k. ltb 0 k && p k) n i h e) (lt-ltb 0 i some)

-- Kinds by number

-- a number of a list is at most a bound of them all
abbrev AllLe : ℕ → List ℕ → Type 0
AllLe m [] = Unit
AllLe m (x ∷ xs) = (x ≤ m) × AllLe m xs

pub bounded : (m : ℕ) (xs : List ℕ) (n : ℕ) → AllLe m xs → one_of xs n ≡ true → n ≤ m
unfolding one_of
bounded m [] n h e = absurd (false≢true e)
bounded m (x ∷ xs) n h e = dite (ℕ_discrete n x) (λ q. omega (arith, h.0)) (λ q. bounded m xs n h.1 (rw (ne_eqb n x q) at e))

-- the widths of run ends
pub wide-at-most : (w : ℕ) → one_of (2 ∷ 4 ∷ 8 ∷ []) w ≡ true → w ≤ 8
wide-at-most w e = bounded 8 (2 ∷ 4 ∷ 8 ∷ []) w (lit≤ tt, (lit≤ tt, (lit≤ tt, tt))) e

pub wide-last : (w : ℕ) → one_of (2 ∷ 4 ∷ 8 ∷ []) w ≡ true → (w ≡ 2 → ⊥) → (w ≡ 4 → ⊥) → w ≡ 8
unfolding one_of
wide-last w e f g =
    let h : (eqb w 8 || false) ≡ true = rw (ne_eqb w 2 f, ne_eqb w 4 g) at e in
    eqb-true w 8 (sym (or-false (eqb w 8)) ∙ h)

-- a node of a kind by number
pub kind-number : (b : List ℕ) (i n : ℕ) → kind_number b i ≡ n → kind b i ≡ kind_of n
unfolding kind
kind-number b i n e = rw e

-- a kind's number, by which a node of that kind is known
abbrev pub number_of : Kind → ℕ
number_of Bits = 1
number_of Native = 2
number_of Fixed = 3
number_of Bytes32 = 4
number_of Bytes64 = 5
number_of Views = 6
number_of Lists32 = 7
number_of Lists64 = 8
number_of Runs = 9
number_of Struct = 10
number_of Union = 11
number_of Dictionary = 12
number_of Nested32 = 13
number_of Nested64 = 14
number_of Unknown = 0

numbered : (n : ℕ) → (kind_of n ≡ Unknown → ⊥) → n ≡ number_of (kind_of n)
unfolding kind_of
numbered zero u = refl
numbered (suc zero) u = refl
numbered (suc (suc zero)) u = refl
numbered (suc (suc (suc zero))) u = refl
numbered (suc (suc (suc (suc zero)))) u = refl
numbered (suc (suc (suc (suc (suc zero))))) u = refl
numbered (suc (suc (suc (suc (suc (suc zero)))))) u = refl
numbered (suc (suc (suc (suc (suc (suc (suc zero))))))) u = refl
numbered (suc (suc (suc (suc (suc (suc (suc (suc zero)))))))) u = refl
numbered (suc (suc (suc (suc (suc (suc (suc (suc (suc zero))))))))) u = refl
numbered (suc (suc (suc (suc (suc (suc (suc (suc (suc (suc zero)))))))))) u = refl
numbered (suc (suc (suc (suc (suc (suc (suc (suc (suc (suc (suc zero))))))))))) u = refl
numbered (suc (suc (suc (suc (suc (suc (suc (suc (suc (suc (suc (suc zero)))))))))))) u = refl
numbered (suc (suc (suc (suc (suc (suc (suc (suc (suc (suc (suc (suc (suc zero))))))))))))) u = refl
numbered (suc (suc (suc (suc (suc (suc (suc (suc (suc (suc (suc (suc (suc (suc zero)))))))))))))) u = refl
numbered (suc (suc (suc (suc (suc (suc (suc (suc (suc (suc (suc (suc (suc (suc (suc n))))))))))))))) u = absurd (u refl)

pub number-kind : (b : List ℕ) (i : ℕ) (k : Kind) → kind b i ≡ k → (k ≡ Unknown → ⊥) → kind_number b i ≡ number_of k
unfolding kind
number-kind b i k e u = numbered (kind_number b i) (λ q. u (sym e ∙ q)) ∙ ap number_of e

-- the tests by number that the conditions make
views-number : (b : List ℕ) (i : ℕ) → kind b i ≡ Views → of_kind 6 b i ≡ true
unfolding of_kind
views-number b i e = eq-eqb _ 6 (number-kind b i Views e (λ q. let z : ◌≡◌ {A = ℕ} 6 0 = ap number_of q in omega arith))

shares-number : (b : List ℕ) (i : ℕ) → Shares (kind b i) → (of_kind 10 b i || of_kind 11 b i) ≡ true
unfolding of_kind
shares-number b i s = go (kind b i) refl s
  where
    go : (k : Kind) → kind b i ≡ k → Shares k → (eqb (kind_number b i) 10 || eqb (kind_number b i) 11) ≡ true
    go Struct e is.Shares.struct = rw (eq-eqb _ 10 (number-kind b i Struct e (λ q. let z : ◌≡◌ {A = ℕ} 10 0 = ap number_of q in omega arith)))
    go Union e is.Shares.union =
        rw (eq-eqb _ 11 (number-kind b i Union e (λ q. let z : ◌≡◌ {A = ℕ} 11 0 = ap number_of q in omega arith))) (or-true (eqb (kind_number b i) 10))
    go Bits e w = elim w [ ]
    go Native e w = elim w [ ]
    go Fixed e w = elim w [ ]
    go Bytes32 e w = elim w [ ]
    go Bytes64 e w = elim w [ ]
    go Views e w = elim w [ ]
    go Lists32 e w = elim w [ ]
    go Lists64 e w = elim w [ ]
    go Runs e w = elim w [ ]
    go Dictionary e w = elim w [ ]
    go Nested32 e w = elim w [ ]
    go Nested64 e w = elim w [ ]
    go Unknown e w = elim w [ ]

-- a kind that allows its param is known, and allows none above 1,024
known_of : (k : Kind) (q : ℕ) → (layout k).params q ≡ true → k ≡ Unknown → ⊥
unfolding one_of
known_of k q e u = false≢true (rw u at e)

narrow-of : (k : Kind) (q : ℕ) → (layout k).params q ≡ true → q ≤ 1024
unfolding one_of
narrow-of Bits q e = let z : q ≡ 0 = eqb-true q 0 e in omega arith
narrow-of Native q e = bounded 1024 (1 ∷ 2 ∷ 4 ∷ 8 ∷ 16 ∷ 32 ∷ []) q (lit≤ tt, (lit≤ tt, (lit≤ tt, (lit≤ tt, (lit≤ tt, (lit≤ tt, tt)))))) e
narrow-of Fixed q e = leb-true q 1024 e
narrow-of Bytes32 q e = let z : q ≡ 0 = eqb-true q 0 e in omega arith
narrow-of Bytes64 q e = let z : q ≡ 0 = eqb-true q 0 e in omega arith
narrow-of Views q e = let z : q ≡ 0 = eqb-true q 0 e in omega arith
narrow-of Lists32 q e = let z : q ≡ 0 = eqb-true q 0 e in omega arith
narrow-of Lists64 q e = let z : q ≡ 0 = eqb-true q 0 e in omega arith
narrow-of Runs q e = bounded 1024 (2 ∷ 4 ∷ 8 ∷ []) q (lit≤ tt, (lit≤ tt, (lit≤ tt, tt))) e
narrow-of Struct q e = let z : q ≡ 0 = eqb-true q 0 e in omega arith
narrow-of Union q e = let z : q ≡ 0 = eqb-true q 0 e in omega arith
narrow-of Dictionary q e = bounded 1024 (1 ∷ 2 ∷ 4 ∷ 8 ∷ []) q (lit≤ tt, (lit≤ tt, (lit≤ tt, (lit≤ tt, tt)))) e
narrow-of Nested32 q e = let z : q ≡ 0 = eqb-true q 0 e in omega arith
narrow-of Nested64 q e = let z : q ≡ 0 = eqb-true q 0 e in omega arith
narrow-of Unknown q e = absurd (false≢true e)

-- a kind that allows some children
childless : {C : Type 0} (k : ℕ) → eqb k 0 ≡ true → 0 < k → C
childless k f h = let z : k ≡ 0 = eqb-true k 0 f in absurd (omega arith)

inner_of : (k : Kind) (n : ℕ) → (k ≡ Unknown → ⊥) → (layout k).children n ≡ true → 0 < n → Inner k
inner_of Bits n u f h = childless n f h
inner_of Native n u f h = childless n f h
inner_of Fixed n u f h = childless n f h
inner_of Bytes32 n u f h = childless n f h
inner_of Bytes64 n u f h = childless n f h
inner_of Views n u f h = carried is.Carries.views
inner_of Lists32 n u f h = carried is.Carries.lists32
inner_of Lists64 n u f h = carried is.Carries.lists64
inner_of Runs n u f h = by_runs refl
inner_of Struct n u f h = shared is.Shares.struct
inner_of Union n u f h = shared is.Shares.union
inner_of Dictionary n u f h = carried is.Carries.dictionary
inner_of Nested32 n u f h = by_spans 4 is.Nests.nested32
inner_of Nested64 n u f h = by_spans 8 is.Nests.nested64
inner_of Unknown n u f h = absurd (u refl)

one-child : {k : Kind} → OneChild k → (n : ℕ) → (layout k).children n ≡ true → n ≡ 1
one-child is.OneChild.lists32 n e = eqb-true n 1 e
one-child is.OneChild.lists64 n e = eqb-true n 1 e
one-child is.OneChild.runs n e = eqb-true n 1 e
one-child is.OneChild.dictionary n e = eqb-true n 1 e
one-child is.OneChild.nested32 n e = eqb-true n 1 e
one-child is.OneChild.nested64 n e = eqb-true n 1 e

-- The tree: every open node but the innermost has begun; the innermost has children to come, and has begun unless it stands right before

abbrev Begun : List ℕ → List Ancestor → Type 0
Begun b [] = Unit
Begun b (ancestor n k ∷ s) = (k < kids b n) × Begun b s

abbrev Stack : List ℕ → ℕ → List Ancestor → Type 0
Stack b i [] = Unit
Stack b i (ancestor n zero ∷ s) = ⊥
Stack b i (ancestor n (suc k) ∷ s) = (suc k ≤ kids b n) × ((suc n ≡ i) ⊎ (suc k < kids b n)) × Begun b s

less-begun : (b : List ℕ) (i : ℕ) (s : List Ancestor) → Stack b i s → Begun b (one_less s)
unfolding one_less
less-begun b i [] h = tt
less-begun b i (ancestor n zero ∷ s) h = absurd h
less-begun b i (ancestor n (suc k) ∷ s) h = (omega (arith, h.0), h.2)

closed-stack : (b : List ℕ) (i : ℕ) (s : List Ancestor) → Begun b s → Stack b i (closed s)
unfolding closed
closed-stack b i [] h = tt
closed-stack b i (ancestor n zero ∷ s) h = closed-stack b i s h.1
closed-stack b i (ancestor n (suc k) ∷ s) h = (omega (arith, h.0), inr h.0, h.1)

push-stack : (b : List ℕ) (i k : ℕ) (s : List Ancestor) → k ≤ kids b i → Begun b s → Stack b (suc i) (closed (ancestor i k ∷ s))
unfolding closed
push-stack b i zero s e h = closed-stack b (suc i) s h
push-stack b i (suc k) s e h = (e, inl refl, h)

stack : (b : List ℕ) (i : ℕ) → Stack b i (ancestors b i)
unfolding ancestors
stack b zero = tt
stack b (suc i) = push-stack b i (kids b i) (one_less (ancestors b i)) (omega arith) (less-begun b i (ancestors b i) (stack b i))

-- a node's parent has a child, and where it has but one, that is the node after it
some-kid : (b : List ℕ) (i : ℕ) (s : List Ancestor) → Stack b i s → empty s ≡ false → 0 < kids b (innermost s)
unfolding innermost empty
some-kid b i [] h e = absurd (false≢true (sym e))
some-kid b i (ancestor n zero ∷ s) h e = absurd h
some-kid b i (ancestor n (suc k) ∷ s) h e = omega (arith, h.0)

only_kid : (b : List ℕ) (i : ℕ) (s : List Ancestor) → Stack b i s → empty s ≡ false → kids b (innermost s) ≡ 1 → i ≡ suc (innermost s)
unfolding innermost empty
only_kid b i [] h e q = absurd (false≢true (sym e))
only_kid b i (ancestor n zero ∷ s) h e q = absurd h
only_kid b i (ancestor n (suc k) ∷ s) h e q = ⊎_elim (λ w. sym w) (λ w. absurd (omega arith)) h.1

-- right after a node with children it is the innermost open one; and so again after a child that has none
opens : (b : List ℕ) (i k : ℕ) → kids b i ≡ suc k → ancestors b (suc i) ≡ ancestor i (suc k) ∷ one_less (ancestors b i)
unfolding ancestors closed
opens b i k e = rw e

passes : (b : List ℕ) (i j k : ℕ) (s : List Ancestor) → kids b j ≡ 0 → ancestors b j ≡ ancestor i (suc (suc k)) ∷ s → ancestors b (suc j) ≡ ancestor i (suc k) ∷ s
unfolding ancestors closed one_less
passes b i j k s e f = rw (e, f)

opened : (b : List ℕ) (n i k : ℕ) (s : List Ancestor) → ancestors b n ≡ ancestor i k ∷ s → empty (ancestors b n) ≡ false
unfolding empty
opened b n i k s e = rw e

innermost-is : (b : List ℕ) (n i k : ℕ) (s : List Ancestor) → ancestors b n ≡ ancestor i k ∷ s → parent b n ≡ i
unfolding parent innermost
innermost-is b n i k s e = rw e

-- What each condition tells by itself: they are tested in turn, and while one is, the later ones are not known

module _ (b : List ℕ) (e : wrong_table b ≡ false) where
  some-nodes : 1 ≤ node_count b
  unfolding wrong_table
  some-nodes = ltb-false _ _ (or_left _ _ (or_left _ _ e))

  pub few-nodes : node_count b ≤ 64
  unfolding wrong_table
  few-nodes = ltb-false _ _ (or_right (ltb (node_count b) 1) _ (or_left _ _ e))

  pub table-place : table_start b + 40 * node_count b + 16 ≡ length b
  unfolding wrong_table
  table-place = eqb-true _ _ (not-false _ (or_right (ltb (node_count b) 1 || ltb 64 (node_count b)) _ e))

module _ (b : List ℕ) (i : ℕ) (h : i < node_count b) where
  module _ (e : wrong_fields b ≡ false) where
    fields-right : bad_fields (layout (kind b i)) b i ≡ false
    unfolding wrong_fields
    fields-right = any_none (λ k. bad_fields (layout (kind b k)) b k) (node_count b) i h e

    pub params-right : (layout (kind b i)).params (param b i) ≡ true
    unfolding bad_fields
    params-right = not-false _ (or_left _ _ (or_left _ _ (or_left _ _ (or_left _ _ (or_left _ _ (or_left _ _ fields-right))))))

    pub kids-right : (layout (kind b i)).children (kids b i) ≡ true
    unfolding bad_fields
    kids-right = not-false _ (or_right (not ((layout (kind b i)).params (param b i))) _ (or_left _ _ (or_left _ _ (or_left _ _ (or_left _ _ (or_left _ _ fields-right))))))

    last-unused : carries_counts b ≡ false → last_field b i ≡ 0
    unfolding bad_fields misused
    last-unused old =
        let f : (carries_counts b || eqb (last_field b i) 0) ≡ true =
        not-false _
        (or_right
        (not ((layout (kind b i)).params (param b i))
        || not ((layout (kind b i)).children (kids b i))
        || not ((layout (kind b i)).bitmap || has_no_bitmap b i)
        || misused (layout (kind b i)).first (first_at b i)
        || misused (layout (kind b i)).second (second_at b i)
        || misused (layout (kind b i)).data_length (second_length b i))
        _
        fields-right) in
        eqb-true _ _ (rw old at f)

  pub places-few : wrong_rows b ≡ false → places b i ≤ 1_048_576
  unfolding wrong_rows
  places-few e = ltb-false _ _ (any_none (λ i. ltb 1_048_576 (places b i)) (node_count b) i h (or_left _ _ (or_left _ _ e)))

  module _ (e : wrong_buffers b ≡ false) where
    buffers-right : bad_buffers b i ≡ false
    unfolding wrong_buffers
    buffers-right = any_none (bad_buffers b) (node_count b) i h e

    pub bitmap-inside : has_no_bitmap b i ≡ false → validity_at b i + bytes_for (places b i) ≤ table_start b
    unfolding bad_buffers
    bitmap-inside f =
        ltb-false _ _
        (and_right (not (has_no_bitmap b i)) (ltb (table_start b) (validity_at b i + bytes_for (places b i))) (or_left _ _ (or_left _ _ buffers-right)) (ap not f))

    pub first-inside : first_at b i + first_size (kind b i) (param b i) (places b i) (rows b (child i)) ≤ table_start b
    unfolding bad_buffers
    first-inside =
        ltb-false _ _ (or_right (not (has_no_bitmap b i) && ltb (table_start b) (validity_at b i + bytes_for (places b i))) _ (or_left _ _ buffers-right))

    pub second-inside : second_at b i + second_size (kind b i) (places b i) (second_length b i) ≤ table_start b
    unfolding bad_buffers
    second-inside =
        ltb-false _ _
        (or_right
        (not (has_no_bitmap b i) && ltb (table_start b) (validity_at b i + bytes_for (places b i))
        || ltb (table_start b) (first_at b i + first_size (kind b i) (param b i) (places b i) (rows b (child i))))
        _
        buffers-right)

module _ (b : List ℕ) (e : wrong_tree b ≡ false) where
  tree-ends : empty (ancestors b (node_count b)) ≡ true
  unfolding wrong_tree not_closed
  tree-ends = not-false _ (or_right (any_below (λ i. ltb 0 i && empty (ancestors b i)) (node_count b)) _ (or_left _ _ (or_left _ _ e)))

  -- where a node is still open, there is another node
  goes_on : (n i k : ℕ) (s : List Ancestor) → n ≤ node_count b → ancestors b n ≡ ancestor i k ∷ s → n < node_count b
  goes_on n i k s h e =
      ⊎_elim (λ q. absurd (false≢true (sym (opened b n i k s e) ∙ ap (λ (j : ℕ). empty (ancestors b j)) q ∙ tree-ends))) (λ l. l) (eq-or-lt_of_le h)

-- the data buffers of a views node: each has no child, so they stand side by side
module _ (b : List ℕ) (fields : wrong_fields b ≡ false) (tree : wrong_tree b ≡ false) where
  module _ (j : ℕ) (some : 0 < j) (l : j < node_count b) (e : kind b (parent b j) ≡ Views) where
    data-buffer : (of_kind 2 b j && eqb (param b j) 1 && has_no_bitmap b j) ≡ true
    unfolding wrong_tree bad_data_buffer
    data-buffer =
        not-false _
        (and_right (of_kind 6 b (parent b j)) _ (below_root (bad_data_buffer b) (node_count b) j some l (or_right (not_closed b || any_below (λ i. ltb 8 (depth b i)) (node_count b)) _ tree))
        (views-number b (parent b j) e))

    buffer-native : kind b j ≡ Native
    unfolding of_kind kind_of
    buffer-native = kind-number b j 2 (eqb-true _ _ (and_first _ _ (and_first _ _ data-buffer)))

    buffer-width : param b j ≡ 1
    buffer-width = eqb-true _ _ (and_second (of_kind 2 b j) _ (and_first _ _ data-buffer))

    buffer-unmarked : validity_at b j ≡ no_bitmap
    unfolding has_no_bitmap
    buffer-unmarked = eqb-true _ _ (and_second (of_kind 2 b j && eqb (param b j) 1) _ data-buffer)

    buffer-childless : kids b j ≡ 0
    buffer-childless = eqb-true _ _ (rw buffer-native at (kids-right b j l fields))

  module _ (i : ℕ) (h : i < node_count b) (v : kind b i ≡ Views) where
    data-open : (k d : ℕ) → suc k + d ≡ kids b i → (ancestors b (data_buffer i k) ≡ ancestor i (suc d) ∷ one_less (ancestors b i)) × (data_buffer i k < node_count b)
    data-open zero d e =
        let q : ancestors b (suc (i + 0)) ≡ ancestor i (suc d) ∷ one_less (ancestors b i) = rw (add-zero i) (opens b i d (omega arith)) in
        (q, goes_on b tree (suc (i + 0)) i (suc d) _ (omega arith) q)
    data-open (suc k) d e =
        let (f, l) = data-open k (suc d) (omega arith) in
        let p : parent b (suc (i + k)) ≡ i = innermost-is b (suc (i + k)) i (suc (suc d)) _ f in
        let q : ancestors b (suc (i + suc k)) ≡ ancestor i (suc d) ∷ one_less (ancestors b i) =
        rw (add-suc i k) (passes b i (suc (i + k)) d _ (buffer-childless (suc (i + k)) (omega arith) l (rw p v)) f) in
        (q, goes_on b tree (suc (i + suc k)) i (suc d) _ (omega arith) q)

    pub data-buffers : (k : ℕ) → k < kids b i → DataBuffer b i k
    data-buffers k m =
        let (f, l) = data-open k (kids b i - suc k) (omega arith) in
        let p : parent b (data_buffer i k) ≡ i = innermost-is b (data_buffer i k) i _ _ f in
        let e : kind b (parent b (data_buffer i k)) ≡ Views = rw p v in
        record {
          inside = l;
          under = p;
          plain = buffer-native (data_buffer i k) (omega arith) l e;
          width = buffer-width (data_buffer i k) (omega arith) l e;
          unmarked = buffer-unmarked (data_buffer i k) (omega arith) l e;
        }

-- The facts, subject by subject

module _ (b : List ℕ) (a : Accepted b) where
  few_bytes : length b ≤ pack_limit
  unfolding wrong_size
  few_bytes = ltb-false _ _ (or_right (ltb (length b) 16) _ a.size)

  module _ (i : ℕ) (h : i < node_count b) where
    no-marks : (layout (kind b i)).bitmap ≡ false → validity_at b i ≡ no_bitmap
    unfolding bad_fields has_no_bitmap
    no-marks e =
        let f : ((layout (kind b i)).bitmap || has_no_bitmap b i) ≡ true =
        not-false _ (or_right (not ((layout (kind b i)).params (param b i)) || not ((layout (kind b i)).children (kids b i))) _ (or_left _ _ (or_left _ _ (or_left _ _ (or_left _ _ (fields-right b i h a.fields)))))) in
        eqb-true _ _ (rw e at f)

    fields-are : Fields b i
    fields-are =
        record {
          known = known_of (kind b i) (param b i) (params-right b i h a.fields);
          params = params-right b i h a.fields;
          children = kids-right b i h a.fields;
          narrow = narrow-of (kind b i) (param b i) (params-right b i h a.fields);
          unmarked = no-marks;
        }

    shallow : depth b i ≤ 8
    unfolding wrong_tree
    shallow = ltb-false _ _ (any_none (λ k. ltb 8 (depth b k)) (node_count b) i h (or_right (not_closed b) _ (or_left _ _ a.tree)))

    in-body : InBody b i
    in-body = record { bitmap = bitmap-inside b i h a.buffers; first = first-inside b i h a.buffers; second = second-inside b i h a.buffers }

    counts-nulls : CountsNulls b i
    unfolding wrong_nulls
    counts-nulls =
        record {
          carried = λ e.
              eqb-true _ _
              (not-false _
              (any_none (λ k. not (eqb (last_field b k) (null_count b k))) (node_count b) i h
              (and_right (carries_counts b) (any_below (λ k. not (eqb (last_field b k) (null_count b k))) (node_count b)) a.nulls e)));
          old = last-unused b i h a.fields;
        }

    content-right : (k : Kind) → kind b i ≡ k → bad_content k b i ≡ false
    unfolding wrong_content
    content-right k e = rw e at (any_none (λ k. bad_content (kind b k) b k) (node_count b) i h a.content)

    -- kinds 4, 5, 13 and 14: offsets of w bytes
    module _ (w size : ℕ) (bad : bad_offsets w size b i ≡ false) where
      offsets-rise : (r : ℕ) → r < rows b i → first_number w b i r ≤ first_number w b i (suc r)
      unfolding bad_offsets
      offsets-rise r l =
          let f : (negative w (first_number w b i (suc r)) || ltb (first_number w b i (suc r)) (first_number w b i r)) ≡ false =
          any_none (λ r. negative w (first_number w b i (suc r)) || ltb (first_number w b i (suc r)) (first_number w b i r)) (rows b i) r l
          (or_right (negative w (first_number w b i 0)) _ (or_left _ _ bad)) in
          ltb-false _ _ (or_right (negative w (first_number w b i (suc r))) _ f)

      last-offset : first_number w b i (rows b i) ≤ size
      unfolding bad_offsets
      last-offset =
          ltb-false _ _
          (or_right (negative w (first_number w b i 0) || any_below (λ r. negative w (first_number w b i (suc r)) || ltb (first_number w b i (suc r)) (first_number w b i r)) (rows b i)) _ bad)

      offset-below : (d r : ℕ) → r + d ≡ rows b i → first_number w b i r ≤ size
      offset-below zero r e = let q : r ≡ rows b i = omega arith in rw q last-offset
      offset-below (suc d) r e = omega (arith, offsets-rise r (omega arith), offset-below d (suc r) (omega arith))

    offsets32-are : kind b i ≡ Bytes32 → Offsets 4 b i
    unfolding bad_content
    offsets32-are e =
        let bad : bad_offsets 4 (second_length b i) b i ≡ false = content-right Bytes32 e in
        record {
          rise = offsets-rise 4 _ bad;
          inside = λ r l. offset-below 4 _ bad (rows b i - r) r (omega arith);
          lie = rw e at (first-inside b i h a.buffers);
          data_lies = rw e at (second-inside b i h a.buffers);
        }

    offsets64-are : kind b i ≡ Bytes64 → Offsets 8 b i
    unfolding bad_content
    offsets64-are e =
        let bad : bad_offsets 8 (second_length b i) b i ≡ false = content-right Bytes64 e in
        record {
          rise = offsets-rise 8 _ bad;
          inside = λ r l. offset-below 8 _ bad (rows b i - r) r (omega arith);
          lie = rw e at (first-inside b i h a.buffers);
          data_lies = rw e at (second-inside b i h a.buffers);
        }

    spans-are : (w : ℕ) → Nests w (kind b i) → Spans w b i
    unfolding bad_content
    spans-are w s = go w (kind b i) refl s
      where
        go : (w : ℕ) (k : Kind) → kind b i ≡ k → Nests w k → Spans w b i
        go w Nested32 e is.Nests.nested32 =
            let bad : bad_offsets 4 (rows b (child i)) b i ≡ false = content-right Nested32 e in
            record {
              rise = offsets-rise 4 _ bad;
              inside = λ r l. offset-below 4 _ bad (rows b i - r) r (omega arith);
              lie = rw e at (first-inside b i h a.buffers);
            }
        go w Nested64 e is.Nests.nested64 =
            let bad : bad_offsets 8 (rows b (child i)) b i ≡ false = content-right Nested64 e in
            record {
              rise = offsets-rise 8 _ bad;
              inside = λ r l. offset-below 8 _ bad (rows b i - r) r (omega arith);
              lie = rw e at (first-inside b i h a.buffers);
            }
        go w Bits e s = elim s [ ]
        go w Native e s = elim s [ ]
        go w Fixed e s = elim s [ ]
        go w Bytes32 e s = elim s [ ]
        go w Bytes64 e s = elim s [ ]
        go w Views e s = elim s [ ]
        go w Lists32 e s = elim s [ ]
        go w Lists64 e s = elim s [ ]
        go w Runs e s = elim s [ ]
        go w Struct e s = elim s [ ]
        go w Union e s = elim s [ ]
        go w Dictionary e s = elim s [ ]
        go w Unknown e s = elim s [ ]

    -- kind 6
    module _ (r : ℕ) (f : bad_view b i r ≡ false) where
      long-right : 12 < view_field 0 b i r → bad_long b i r ≡ false
      unfolding bad_view
      long-right m = rw (lt-ltb 12 (view_field 0 b i r) m) at (or_right (negative 4 (view_field 0 b i r)) _ f)

      short-right : view_field 0 b i r ≤ 12 → bad_short b i r ≡ false
      unfolding bad_view
      short-right m = rw (le-ltb 12 (view_field 0 b i r) m) at (or_right (negative 4 (view_field 0 b i r)) _ f)

      view-right : ViewLies b i r
      unfolding bad_view bad_long bad_short negative
      view-right =
          record {
            short = leb-false _ _ (or_left _ _ f);
            names = λ m. leb-false _ _ (or_left _ _ (or_left _ _ (long-right m)));
            inside = λ m. ltb-false _ _ (or_right (leb (kids b i) (view_field 2 b i r)) _ (or_left _ _ (long-right m)));
            prefix =
                λ m. eqb-true _ _
                (not-false _
                (or_right (leb (kids b i) (view_field 2 b i r) || ltb (rows b (data_buffer i (view_field 2 b i r))) (view_field 3 b i r + view_field 0 b i r)) _ (long-right m)));
            unused =
                λ k m n. eqb-true _ _
                (not-false _
                (and_right (leb (view_field 0 b i r) k) _
                (any_none (λ k. leb (view_field 0 b i r) k && not (eqb (get_or b (first_at b i + 16 * (skip b i + r) + 4 + k) 0) 0)) 12 k n (short-right (omega arith)))
                (le-leb (view_field 0 b i r) k m)));
          }

    view-lies : (r : ℕ) → kind b i ≡ Views → r < rows b i → ViewLies b i r
    unfolding bad_content
    view-lies r e l = view-right r (any_none (bad_view b i) (rows b i) r l (content-right Views e))

    -- kinds 7 and 8
    module _ (w r : ℕ) (bad : bad_range w b i r ≡ false) where
      range-lies : first_number w b i r + second_number w b i r ≤ rows b (child i)
      unfolding bad_range
      range-lies = ltb-false _ _ (or_right (negative w (first_number w b i r) || negative w (second_number w b i r)) _ bad)

    lists32-lie : (r : ℕ) → kind b i ≡ Lists32 → r < rows b i → first_number 4 b i r + second_number 4 b i r ≤ rows b (child i)
    unfolding bad_content
    lists32-lie r e l = range-lies 4 r (any_none (bad_range 4 b i) (rows b i) r l (content-right Lists32 e))

    lists64-lie : (r : ℕ) → kind b i ≡ Lists64 → r < rows b i → first_number 8 b i r + second_number 8 b i r ≤ rows b (child i)
    unfolding bad_content
    lists64-lie r e l = range-lies 8 r (any_none (bad_range 8 b i) (rows b i) r l (content-right Lists64 e))

    -- kind 9
    run-right : kind b i ≡ Runs → (j : ℕ) → j < rows b (child i) → (negative (param b i) (run_end b i j) || leb (run_end b i j) (run_start b i j)) ≡ false
    unfolding bad_content bad_runs
    run-right e j l =
        any_none (λ j. negative (param b i) (run_end b i j) || leb (run_end b i j) (run_start b i j)) (rows b (child i)) j l (or_left _ _ (content-right Runs e))

    run_ends-are : kind b i ≡ Runs → RunEnds b i
    unfolding bad_content bad_runs negative
    run_ends-are e =
        record {
          width = rw e at (params-right b i h a.fields);
          rise = λ j l. leb-false _ _ (or_right (leb (2 ^ (8 * param b i - 1)) (run_end b i j)) _ (run-right e j l));
          small = λ j l. leb-false _ _ (or_left _ _ (run-right e j l));
          cover =
              ltb-false _ _
              (or_right (any_below (λ j. leb (2 ^ (8 * param b i - 1)) (run_end b i j) || leb (run_end b i j) (run_start b i j)) (rows b (child i))) _ (content-right Runs e));
          lie = rw e at (first-inside b i h a.buffers);
        }

    -- kinds 11 and 12
    ids-below : (r : ℕ) → kind b i ≡ Union → r < rows b i → first_number 1 b i r < kids b i
    unfolding bad_content
    ids-below r e l = leb-false _ _ (any_none (λ r. leb (kids b i) (first_number 1 b i r)) (rows b i) r l (content-right Union e))

    keys_below : (r : ℕ) → kind b i ≡ Dictionary → r < rows b i → valid b i r ≡ true → first_number (param b i) b i r < rows b (child i)
    unfolding bad_content
    keys_below r e l v =
        leb-false _ _
        (and_right (valid b i r) (leb (rows b (child i)) (first_number (param b i) b i r))
        (any_none (λ r. valid b i r && leb (rows b (child i)) (first_number (param b i) b i r)) (rows b i) r l (content-right Dictionary e))
        v)

    -- the one child
    module _ (o : OneChild (kind b i)) where
      one-kid : ancestors b (suc i) ≡ ancestor i 1 ∷ one_less (ancestors b i)
      one-kid = opens b i 0 (one-child o (kids b i) (kids-right b i h a.fields))

      child-inside : child i < node_count b
      child-inside = goes_on b a.tree (suc i) i 1 (one_less (ancestors b i)) h one-kid

      child-under : parent b (child i) ≡ i
      child-under = innermost-is b (suc i) i 1 (one_less (ancestors b i)) one-kid

  -- each node below the root has a parent
  above : (i : ℕ) → 0 < i → parent b i < i
  above zero h = absurd (omega arith)
  above (suc i) h = parent-before b i

  module _ (i : ℕ) (some : 0 < i) (h : i < node_count b) where
    parent-inside : parent b i < node_count b
    parent-inside = omega (arith, above i some)

    open_above : empty (ancestors b i) ≡ false
    unfolding wrong_tree not_closed
    open_above = below_root (λ k. empty (ancestors b k)) (node_count b) i some h (or_left _ _ (or_left _ _ (or_left _ _ a.tree)))

    above-inner : Inner (kind b (parent b i))
    unfolding parent
    above-inner =
        inner_of (kind b (parent b i)) (kids b (parent b i)) (fields-are (parent b i) parent-inside).known (kids-right b (parent b i) parent-inside a.fields)
        (some-kid b i (ancestors b i) (stack b i) open_above)

    above-only : OneChild (kind b (parent b i)) → i ≡ suc (parent b i)
    unfolding parent
    above-only o = only_kid b i (ancestors b i) (stack b i) open_above (one-child o (kids b (parent b i)) (kids-right b (parent b i) parent-inside a.fields))

    rows_same : Shares (kind b (parent b i)) → rows b i ≡ rows b (parent b i)
    unfolding wrong_rows bad_child_rows
    rows_same s =
        let e : bad_child_rows b i ≡ false =
        below_root (bad_child_rows b) (node_count b) i some h (or_right (any_below (λ i. ltb 1_048_576 (places b i)) (node_count b) || not (eqb (root_rows b) (rows b 0))) _ a.rowed) in
        eqb-true _ _ (not-false _ (and_right (of_kind 10 b (parent b i) || of_kind 11 b (parent b i)) _ e (shares-number b (parent b i) s)))

  root-rows : root_rows b ≡ rows b 0
  unfolding wrong_rows
  root-rows = eqb-true _ _ (not-false _ (or_right (any_below (λ i. ltb 1_048_576 (places b i)) (node_count b)) _ (or_left _ _ a.rowed)))

  shape : Shape b
  shape =
      record {
        small = few_bytes;
        some = some-nodes b a.tabled;
        few = few-nodes b a.tabled;
        table = table-place b a.tabled;
        shallow = shallow;
        above = above;
        inner = above-inner;
        only = above-only;
        next = child-inside;
        under = child-under;
        buffers = λ i k h v l. data-buffers b a.fields a.tree i h v k l;
      }

  all_sound : Sound b
  all_sound =
      record {
        shape = shape;
        agree = record { limit = λ i h. places-few b i h a.rowed; root = root-rows; same = rows_same };
        fields = fields-are;
        in_body = in-body;
        nulls = counts-nulls;
        offsets32 = offsets32-are;
        offsets64 = offsets64-are;
        views = λ i r h e l. view-lies i h r e l;
        lists32 = λ i r h e l. lists32-lie i h r e l;
        lists64 = λ i r h e l. lists64-lie i h r e l;
        run_ends = run_ends-are;
        spans = λ w i h s. spans-are i h w s;
        ids = λ i r h e l. ids-below i h r e l;
        keys = λ i r h e l v. keys_below i h r e l v;
      }

-- an accepted journal, and an accepted mask

pub sound : (b : List ℕ) → journal_verdict b ≡ 0 → Sound b
sound b e = all_sound b (accepted b e)

pub sound-mask : (m : List ℕ) → mask_verdict m ≡ 0 → SoundMask m
unfolding wrong_root of_kind kind_of
sound-mask m e =
    let (a, r) = accepted-mask m e in
    let s = all_sound m a in
    let k : kind m 0 ≡ Bits = kind-number m 0 1 (eqb-true _ _ (not-false _ r)) in
    let h : 0 < node_count m = omega (arith, s.shape.some) in
    record {
      sound = s;
      root = k;
      limit = s.agree.limit 0 h;
      bits = rw k at (s.in_body 0 h).first;
      bitmap = (s.in_body 0 h).bitmap;
    }
