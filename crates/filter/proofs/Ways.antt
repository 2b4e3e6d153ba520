-- Each way in which a call ends, by the tests that led there. Assumes nothing.
use Prim.Native.Nat.{ℕ, ◌≤◌, ◌<◌}
use Rattle.std.proofs.Common.{Option, None, Result, Err}
use mathlib.Core.Bool.{Bool, true, false, cond, ◌&&◌, ◌||◌}
use mathlib.Core.List.{List, [], ◌++◌}
use mathlib.Core.Path.{◌≡◌, refl, sym, ap, ◌∙◌}
use native.Mathlib.Omega.{arith}
use borrow.Author.Tests.{lt-ltb, le-ltb, ltb-false}
use lib.Dec.{ltb}
use lib.ListN.{length, drop, replicate, length-replicate}
use Rattle.format.specs.declared.Route.{Route}
use Rattle.format.specs.declared.Pack.{Pack}
use Rattle.format.specs.declared.Pack.TheVariants.{Mask, Journal}
use Rattle.format.specs.declared.Reason.TheVariants as reason
use Rattle.format.specs.declared.Done.{Done}
use Rattle.format.specs.declared.Refused.{Refused}
use Rattle.format.specs.Bytes.{over}
use Rattle.format.specs.Node.{node_count, rows}
use Rattle.format.specs.Mask as Masks
use Rattle.format.specs.Mask.{count, mask_length, picks, entries}
use Rattle.format.specs.Verdict.{mask_verdict, journal_verdict, pack_limit}
use Rattle.format.specs.Write.{extract}
use Rattle.format.specs.Accepted.{Sound}
use Rattle.format.specs.Refusal.{Refusal, unrefused, refused_by}
use Rattle.format.specs.Answer.{done_with, refused_for, own_answer, Call, call_of, Returned, refusal_of, answer, answer_at, output_after, list_after, scratch_after}
use Rattle.format.specs.Answer.{wrong_count, too_long, list_short, scratch_short, output_short, extract_of, stores, scratch_needed}
use Rattle.format.proofs.Accepted.{sound}
use Rattle.format.proofs.Returns.{returned-own, returned-refused, returned-done, mask-refused, count-refused, journal-refused, length-refused, list-refused, scratch-refused, output-refused, not-refused}
use Rattle.format.proofs.Reasons.{own_answer-err}
use Rattle.format.proofs.SlotLaws.{chosen-picks}
use Rattle.slots.specs.declared.Bits.{Bits}
use Rattle.slots.specs.Source.{slot_of}
use Rattle.slots.specs.Node.{bits_of}
use Rattle.slots.proofs.Masked.{mask-picks}
use Rattle.prepare.specs.Prepare.{Counted}
use Rattle.prepare.proofs.Slips as mask
use Rattle.predicate.specs.Entries.{entries_on}
use Rattle.nesting.specs.Rows.{picks_of, Sifted}
use Rattle.nesting.proofs.Picks.{picks-sifted, count-picks}
use Rattle.filter.specs.Call.{Accepted, Listed}

-- ---- a count that is not stated is not wrong

pub right-unstated : (n : ℕ) → wrong_count None n ≡ false
unfolding wrong_count
right-unstated n = refl

-- where the stated count is right, the call ends as one that states none
module _ (m j : List ℕ) (st : Option ℕ) (asked : Bool) (list scratch output : List ℕ) (right : wrong_count st (count m) ≡ false) where
  same-refusal : refusal_of (call_of m j st asked list scratch output) ≡ refusal_of (call_of m j None asked list scratch output)
  unfolding refusal_of wrong_count too_long list_short scratch_short extract_of
  same-refusal = rw right

  same_answer : (f : Refusal Pack) → answer_at f (call_of m j None asked list scratch output) ≡ answer_at f (call_of m j st asked list scratch output)
  unfolding answer_at extract_of
  same_answer unrefused = refl
  same_answer (refused_by n p) = refl

  pub restated : {r : Result Done Refused} {o l s : List ℕ} → Returned (call_of m j None asked list scratch output) r o l s → Returned (call_of m j st asked list scratch output) r o l s
  unfolding answer output_after list_after scratch_after extract_of stores
  restated f =
      record {
        answered = rw same-refusal (f.answered ∙ same_answer (refusal_of (call_of m j None asked list scratch output)));
        written = rw same-refusal f.written;
        listed = rw same-refusal f.listed;
        cleared = rw same-refusal f.cleared;
      }

-- ---- the packs' own refusals, and 11

pub mask-bad : (c : Call) {f : Refused} → Err f ≡ own_answer Mask (mask_verdict c.mask) → Returned c (Err f) c.output c.list c.scratch
mask-bad c e = let own = own_answer-err _ e in rw own.1 (returned-own c _ Mask (mask-refused c own.0))

module _ (c : Call) (m : mask_verdict c.mask ≡ 0) where
  pub miscounted : wrong_count c.stated (count c.mask) ≡ true → Returned c (refused_for reason.Count Mask) c.output c.list c.scratch
  miscounted e = returned-refused c reason.Count Mask (count-refused c m e)

  pub journal-bad : wrong_count c.stated (count c.mask) ≡ false → {f : Refused} → Err f ≡ own_answer Journal (journal_verdict c.journal)
      → Returned c (Err f) c.output c.list c.scratch
  journal-bad k e = let own = own_answer-err _ e in rw own.1 (returned-own c _ Journal (journal-refused c m k own.0))

-- ---- both packs are accepted: 10 and 12

module _ {c : Call} {bits : Bits} {kept : ℕ} (k : Counted c.mask bits kept) (f : Accepted c) where
  length-is : bits.len ≡ mask_length c.mask
  unfolding mask_length
  length-is = rw k.bits

  pub long-mask : {n : ℕ} → n ≡ rows c.journal 0 → n < bits.len → Returned c (refused_for reason.TooLong Journal) c.output c.list c.scratch
  unfolding too_long
  long-mask e h = returned-refused c reason.TooLong Journal (length-refused c k.accepted f.right f.journal (lt-ltb (rows c.journal 0) (mask_length c.mask) (omega (arith, length-is))))

  pub not-long : {n : ℕ} → n ≡ rows c.journal 0 → bits.len ≤ n → too_long c ≡ false
  unfolding too_long
  not-long e h = le-ltb (rows c.journal 0) (mask_length c.mask) (omega (arith, length-is))

  pub short-list : too_long c ≡ false → (c.asked && ltb (length c.list) (length (entries c.mask))) ≡ true → Returned c (refused_for reason.List Journal) c.output c.list c.scratch
  unfolding list_short
  short-list l e = returned-refused c reason.List Journal (list-refused c k.accepted f.right f.journal l e)

-- neither
pub to-list : {c : Call} → Accepted c → too_long c ≡ false → (c.asked && ltb (length c.list) (length (entries c.mask))) ≡ false → Listed c
unfolding list_short
to-list f l e = record { accepted = f; fits = l; roomy = e }

-- ---- the list is not short: 13 and 14

module _ {c : Call} {bits : Bits} {kept : ℕ} (k : Counted c.mask bits kept) (f : Listed c) where
  pub short-bits : bits.len ≤ rows c.journal 0
  unfolding too_long
  short-bits = rw (length-is k f.accepted) (ltb-false _ _ f.fits)

  -- the count is that of the rows that the bits pick
  pub kept-picks : kept ≡ length (picks_of c.mask bits)
  kept-picks = mask.kept-is k ∙ count-picks c.mask bits

  pub rooted : Sifted (picks_of c.mask bits) (rows c.journal 0)
  rooted = picks-sifted c.mask bits (rows c.journal 0) short-bits

  route-is : Masks.route_of bits.len kept ≡ Masks.route c.mask
  unfolding Masks.route mask_length
  route-is = rw (k.bits, k.counted)

  -- the rows that the bits pick are the mask's
  picks-are : picks_of c.mask bits ≡ picks c.mask
  picks-are = rw k.bits (chosen-picks (slot_of c.mask (bits_of c.mask 0)) (rows c.mask 0) ∙ mask-picks c.mask)

  extract-is : extract c.journal (picks_of c.mask bits) ≡ extract_of c
  unfolding extract_of
  extract-is = ap (extract c.journal) picks-are

  pub short-scratch : {need : ℕ} → need ≡ scratch_needed c.journal → length c.scratch < need → Returned c (refused_for reason.Scratch Journal) c.output c.list c.scratch
  unfolding scratch_short
  short-scratch e h =
      let a = f.accepted in
      returned-refused c reason.Scratch Journal (scratch-refused c k.accepted a.right a.journal f.fits f.roomy (lt-ltb (length c.scratch) (scratch_needed c.journal) (omega arith)))

  module _ {need size : ℕ} (en : need ≡ scratch_needed c.journal) (fills : need ≤ length c.scratch) (es : size ≡ length (extract c.journal (picks_of c.mask bits))) where
    not_short : scratch_short c ≡ false
    unfolding scratch_short
    not_short = le-ltb (length c.scratch) (scratch_needed c.journal) (omega arith)

    size_is : size ≡ length (extract_of c)
    size_is = es ∙ ap length extract-is

    pub short-output : output_short (length c.output) size ≡ true → Returned c (refused_for reason.Output Journal) c.output c.list c.scratch
    short-output e =
        let a = f.accepted in
        returned-refused c reason.Output Journal (output-refused c k.accepted a.right a.journal f.fits f.roomy not_short (rw size_is at e))

    fine : output_short (length c.output) size ≡ false → refusal_of c ≡ unrefused
    fine e = let a = f.accepted in not-refused c k.accepted a.right a.journal f.fits f.roomy not_short (rw size_is at e)

    -- the extract, the list and zeros over the fronts of what was lent
    pub done : {route : Route} → route ≡ Masks.route_of bits.len kept → output_short (length c.output) size ≡ false → {o l s : List ℕ} → o ≡ extract c.journal (picks_of c.mask bits)
        → l ≡ over (cond c.asked (entries_on route (slot_of c.mask bits) bits.len) []) c.list → s ≡ replicate need 0
        → Returned c (done_with kept bits.len route size) (o ++ drop size c.output) l (s ++ drop need c.scratch)
    unfolding over stores Masks.route mask_length
    done g short eo el ez =
        let r = returned-done c (fine short) in
        record {
          answered = rw (k.counted, length-is k f.accepted, g ∙ route-is, size_is) r.answered;
          written = rw (eo, extract-is, size_is) r.written;
          listed = rw (mask.entries-are k g) at el ∙ r.listed;
          cleared = rw (ez, en) (rw length-replicate at r.cleared);
        }

-- ---- the list has room where it is asked for

pub list-room : {c : Call} {bits : Bits} {kept : ℕ} {route : Route} → Counted c.mask bits kept → route ≡ Masks.route_of bits.len kept → Listed c → c.asked ≡ true → length (entries_on route (slot_of c.mask bits) bits.len) ≤ length c.list
unfolding list_short
list-room {c} k g f e = rw (mask.entries-are k g) (ltb-false _ _ (rw e at f.roomy))

-- ---- there is room for all

-- both parts of 14 are false
pub fits-room : (room size : ℕ) → output_short room size ≡ false → size ≤ room
unfolding output_short
fits-room room size e = go (ltb room size) refl e
  where
    go : (t : Bool) → ltb room size ≡ t → (t || ltb pack_limit size) ≡ false → size ≤ room
    go true q e = let z : ◌≡◌ {A = ℕ} 0 1 = cc in absurd (omega arith)
    go false q e = ltb-false _ _ q

pub fits-pack : (room size : ℕ) → output_short room size ≡ false → size ≤ pack_limit
unfolding output_short
fits-pack room size e = ltb-false _ _ (go (ltb room size) e)
  where
    go : (t : Bool) → (t || ltb pack_limit size) ≡ false → ltb pack_limit size ≡ false
    go true e = let z : ◌≡◌ {A = ℕ} 0 1 = cc in absurd (omega arith)
    go false e = e
