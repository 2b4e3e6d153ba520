-- Demand 3: an extract shows the kept part of a journal and nothing else. Assumes nothing.
use Rattle.std.proofs.Common.{Result, ◌≡◌, ℕ, zero, suc, ◌<◌, ◌≤◌, Bool, true, false, cond, not, ◌&&◌, ◌||◌, eqb, ltb, ◌⊎◌, List, [], ◌∷◌, ◌++◌, length, sym, refl, ap, ◌∙◌, ap₂, inl, inr, eq-or-lt_of_le, arith, le-ltb, eq-eqb, ne_eqb}
use mathlib.Core.Bool.{beq, or_assoc, or-false}
use Rattle.format.specs.Bytes.{chosen, over}
use Rattle.format.specs.Node.{rows}
use Rattle.format.specs.Verdict.{mask_verdict, journal_verdict}
use Rattle.format.specs.Mask.{picked, picks, mask_length, count, route, route_of, entries, entries_for, edges, before}
use Rattle.format.specs.declared.Route.{Route}
use Rattle.format.specs.declared.Route.TheVariants.{None, All, Slices, Indices}
use Rattle.format.specs.declared.Done.{Done}
use Rattle.format.specs.declared.Reason.{Reason}
use Rattle.format.specs.declared.Refused.{Refused}
use Rattle.format.specs.declared.Pack.{Pack}
use Rattle.format.specs.declared.Pack.TheVariants.{Mask, Journal}
use Rattle.format.specs.Kept.{columns, kept_part}
use Rattle.format.specs.Write.{write, extract}
use Rattle.format.specs.Refusal.{Refusal, unrefused, refused_by, when, ◌then◌, of_verdict, after}
use Rattle.format.specs.Reason.{reason_of}
use Rattle.format.specs.Answer.{Call, done_with, refused_for, answer, answer_at, refusal_of, too_long, wrong_count, list_short, scratch_short, output_short, extract_of, output_after, stores, list_after}

-- two calls on masks that pick the same rows and journals that are alike in the kept part, whatever else their bytes hold
pub record Alike (c d : Call) : Type 0 where
  pub mask_c : mask_verdict c.mask ≡ 0
  pub mask_d : mask_verdict d.mask ≡ 0
  pub journal_c : journal_verdict c.journal ≡ 0
  pub journal_d : journal_verdict d.journal ≡ 0
  pub one_length : mask_length c.mask ≡ mask_length d.mask
  pub same_picks : picks c.mask ≡ picks d.mask
  pub long_c : mask_length c.mask ≤ rows c.journal 0
  pub long_d : mask_length d.mask ≤ rows d.journal 0
  pub same_columns : columns c.journal ≡ columns d.journal
  pub same_kept : kept_part c.journal (picks c.mask) ≡ kept_part d.journal (picks d.mask)
  pub list_c : list_short c ≡ false
  pub list_d : list_short d ≡ false
  pub scratch_c : scratch_short c ≡ false
  pub scratch_d : scratch_short d ≡ false
  pub same_output : c.output ≡ d.output
  pub same_stated : c.stated ≡ d.stated

-- what a caller sees of a call: its answer, told in the caller's own terms (as a value of the answer's type, or in numbers), and what output
-- and list hold as it returned
pub record Seen {T : Type 0} (tell : Result Done Refused → T) (c : Call) : Type 0 where
  pub told : T
  pub output : List ℕ
  pub list : List ℕ
  pub tells : told ≡ tell (answer c)
  pub written : output ≡ output_after c
  pub listed : list ≡ list_after c

module _ {T : Type 0} {tell : Result Done Refused → T} {c d : Call} (f : Seen tell c) (g : Seen tell d) where
  -- both give the extract that the definitions give, the same in length and in every byte, at the front of an output that is else as it was;
  -- and a call that asks for the list has the same entries as the other at the front of it
  pub record BothGive : Type 0 where
    pub extracts : extract_of c ≡ extract_of d
    pub gives : f.told ≡ tell (done_with (count c.mask) (mask_length c.mask) (route c.mask) (length (extract_of c)))
    pub gives_too : g.told ≡ tell (done_with (count d.mask) (mask_length d.mask) (route d.mask) (length (extract_of d)))
    pub writes : f.output ≡ over (extract_of c) c.output
    pub writes_too : g.output ≡ over (extract_of d) d.output
    pub entered : entries c.mask ≡ entries d.mask
    pub lists : c.asked ≡ true → f.list ≡ over (entries c.mask) c.list
    pub lists_too : d.asked ≡ true → g.list ≡ over (entries d.mask) d.list

  -- both give the same refusal, reason and pack, and the outputs are as they were
  pub record BothRefuse : Type 0 where
    pub reason : Reason
    pub pack : Pack
    pub refuses : f.told ≡ tell (refused_for reason pack)
    pub refuses_too : g.told ≡ tell (refused_for reason pack)
    pub leaves : f.output ≡ c.output
    pub leaves_too : g.output ≡ d.output

  -- the two calls end alike: the same answer and every byte of the output; count and route equal either way; and either way which it is
  pub record Same : Type 0 where
    pub answers : f.told ≡ g.told
    pub outputs : f.output ≡ g.output
    pub counts : count c.mask ≡ count d.mask
    pub routes : route c.mask ≡ route d.mask
    pub either : BothGive ⊎ BothRefuse

-- an accepted call on a long enough journal, with list and scratch enough, is refused by 11 and by 14 only
accepted-refusal : (c : Call) → mask_verdict c.mask ≡ 0 → journal_verdict c.journal ≡ 0 → mask_length c.mask ≤ rows c.journal 0
    → list_short c ≡ false → scratch_short c ≡ false
    → refusal_of c ≡ when (wrong_count c.stated (count c.mask)) 11 Mask then when (output_short (length c.output) (length (extract_of c))) 14 Journal
unfolding refusal_of too_long of_verdict when ◌then◌
accepted-refusal c m j long l s = rw (m, j, le-ltb (rows c.journal 0) (mask_length c.mask) long, l, s)

-- ---- what the chosen numbers tell of their test

-- i stands in the list
pub has : List ℕ → ℕ → Bool
has [] i = false
has (x ∷ xs) i = eqb i x || has xs i

pub has-append : (xs ys : List ℕ) (i : ℕ) → has (xs ++ ys) i ≡ (has xs i || has ys i)
unfolding has
has-append [] ys i = refl
has-append (x ∷ xs) ys i = rw (has-append xs ys i) (sym (or_assoc (eqb i x) (has xs i) (has ys i)))

last-same : (t : Bool) (n : ℕ) → has (cond t (n ∷ []) []) n ≡ t
unfolding has
last-same true n = rw (eq-eqb n n refl)
last-same false n = refl

last-other : (t : Bool) (i n : ℕ) → (i ≡ n → ⊥) → has (cond t (n ∷ []) []) i ≡ false
unfolding has
last-other true i n h = rw (ne_eqb i n h)
last-other false i n h = refl

pub has_above : (p : ℕ → Bool) (n i : ℕ) → n ≤ i → has (chosen p n) i ≡ false
unfolding chosen has
has_above p zero i h = refl
has_above p (suc n) i h = rw (has-append (chosen p n), has_above p n i (omega arith), last-other (p n) i n (λ e. omega arith))

-- the chosen numbers tell the test
pub has_chosen : (p : ℕ → Bool) (n i : ℕ) → i < n → has (chosen p n) i ≡ p i
unfolding chosen
has_chosen p zero i h = absurd (omega arith)
has_chosen p (suc n) i h = rw (has-append (chosen p n)) (go (has_chosen p n i) (eq-or-lt_of_le h))
  where
    go : (i < n → has (chosen p n) i ≡ p i) → (suc i ≡ suc n) ⊎ (suc i < suc n) → (has (chosen p n) i || has (cond (p n) (n ∷ []) []) i) ≡ p i
    go ih (inl e) = let q : i ≡ n = omega arith in rw (has_above p n i (omega arith), q) (last-same (p n) n)
    go ih (inr l) = rw (ih (omega arith), last-other (p n) i n (λ e. omega arith)) (or-false (p i))

-- tests that agree below n choose the same numbers
pub chosen-agree : (p q : ℕ → Bool) (n : ℕ) → ((i : ℕ) → i < n → p i ≡ q i) → chosen p n ≡ chosen q n
unfolding chosen
chosen-agree p q zero h = refl
chosen-agree p q (suc n) h = rw (chosen-agree p q n (λ i l. h i (omega arith)), h n (omega arith))

-- tests that choose the same numbers below n agree there, and so have the same runs
module _ (p q : ℕ → Bool) (n : ℕ) (e : chosen p n ≡ chosen q n) where
  pub agree : (i : ℕ) → i < n → p i ≡ q i
  agree i l = sym (has_chosen p n i l) ∙ ap (λ (xs : List ℕ). has xs i) e ∙ has_chosen q n i l

  agree-before : (i : ℕ) → i < suc n → before p i ≡ before q i
  unfolding before
  agree-before zero l = refl
  agree-before (suc i) l = agree i (omega arith)

  agree-within : (i : ℕ) → (i ≡ n) ⊎ (i < n) → (ltb i n && p i) ≡ (ltb i n && q i)
  agree-within i (inl w) = rw (le-ltb i n (omega arith))
  agree-within i (inr l) = rw (agree i l)

  pub edges-agree : edges p n ≡ edges q n
  unfolding edges
  edges-agree =
      chosen-agree _ _ (suc n)
      (λ i l. ap₂ (λ (x y : Bool). not (beq x y)) (agree-before i l) (agree-within i (eq-or-lt_of_le (omega arith))))

-- a call that is not refused and asks for the list has its entries at the front of it
stored : (c : Call) → refusal_of c ≡ unrefused → c.asked ≡ true → list_after c ≡ over (entries c.mask) c.list
unfolding list_after stores after
stored c f a = rw (f, a)

module _ (c d : Call) (h : Alike c d) where
  same_count : count c.mask ≡ count d.mask
  unfolding count
  same_count = ap length h.same_picks

  same_route : route c.mask ≡ route d.mask
  unfolding route
  same_route = ap₂ route_of h.one_length same_count

  same-extract : extract_of c ≡ extract_of d
  unfolding extract_of extract
  same-extract = ap₂ write h.same_columns h.same_kept

  chosen-same : chosen (picked c.mask) (mask_length d.mask) ≡ chosen (picked d.mask) (mask_length d.mask)
  unfolding picks
  chosen-same = ap (chosen (picked c.mask)) (sym h.one_length) ∙ h.same_picks

  same_entries : entries c.mask ≡ entries d.mask
  unfolding entries entries_for
  same_entries = rw same_route (go (route d.mask))
    where
      go : (r : Route) → entries_for r c.mask ≡ entries_for r d.mask
      go None = refl
      go All = refl
      go Slices = rw h.one_length (edges-agree (picked c.mask) (picked d.mask) (mask_length d.mask) chosen-same)
      go Indices = h.same_picks

  same-refusal : refusal_of c ≡ refusal_of d
  same-refusal =
      rw (
        accepted-refusal c h.mask_c h.journal_c h.long_c h.list_c h.scratch_c,
        accepted-refusal d h.mask_d h.journal_d h.long_d h.list_d h.scratch_d,
        same_count,
        same-extract,
        h.same_output,
        h.same_stated,
      )

  same_answer : (s : Refusal Pack) → answer_at s c ≡ answer_at s d
  unfolding answer_at
  same_answer unrefused = rw (same_count, h.one_length, same_route, same-extract)
  same_answer (refused_by n p) = refl

  same-output : output_after c ≡ output_after d
  unfolding output_after
  same-output = rw (same-refusal, same-extract, h.same_output)

  module _ {T : Type 0} {tell : Result Done Refused → T} (f : Seen tell c) (g : Seen tell d) where
    -- which of the two it is follows from the one refusal that both have
    ends : (s : Refusal Pack) → refusal_of c ≡ s → refusal_of d ≡ s → BothGive f g ⊎ BothRefuse f g
    unfolding answer answer_at output_after after
    ends unrefused p q =
        inl
        (record {
          extracts = same-extract;
          gives = f.tells ∙ ap tell (rw p);
          gives_too = g.tells ∙ ap tell (rw q);
          writes = f.written ∙ rw p;
          writes_too = g.written ∙ rw q;
          entered = same_entries;
          lists = λ a. f.listed ∙ stored c p a;
          lists_too = λ a. g.listed ∙ stored d q a;
        })
    ends (refused_by n k) p q =
        inr
        (record {
          reason = reason_of n;
          pack = k;
          refuses = f.tells ∙ ap tell (rw p);
          refuses_too = g.tells ∙ ap tell (rw q);
          leaves = f.written ∙ rw p;
          leaves_too = g.written ∙ rw q;
        })

    pub demand3 : Same f g
    unfolding answer
    demand3 =
        record {
          answers = f.tells ∙ ap tell (rw same-refusal (same_answer (refusal_of d))) ∙ sym g.tells;
          outputs = f.written ∙ same-output ∙ sym g.written;
          counts = same_count;
          routes = same_route;
          either = ends (refusal_of d) same-refusal refl;
        }
