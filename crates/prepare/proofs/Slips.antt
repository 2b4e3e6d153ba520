-- How a mask that is prepared alone is answered, each way by the condition that led to it, and that a whole call gives the same slip. Assumes nothing.
use Prim.Native.Nat.{ℕ, ◌≤◌, ◌<◌}
use Rattle.std.proofs.Common.{Option, None, Result, Err}
use mathlib.Core.Bool.{Bool, true, false}
use mathlib.Core.List.{List}
use mathlib.Core.Path.{◌≡◌, refl, sym, ◌∙◌}
use native.Mathlib.Omega.{arith}
use borrow.Author.Tests.{lt-ltb, le-ltb}
use lib.ListN.{length}
use Rattle.format.specs.declared.Route.{Route}
use Rattle.format.specs.declared.Route.TheVariants as route
use Rattle.format.specs.declared.Pack.{Pack}
use Rattle.format.specs.declared.Pack.TheVariants.{Mask, Journal}
use Rattle.format.specs.declared.Reason.TheVariants.{Count, List as Listing}
use Rattle.format.specs.declared.Refused.{Refused}
use Rattle.format.specs.declared.Ready.{Ready}
use Rattle.format.specs.Bytes.{over}
use Rattle.format.specs.Node.{rows}
use Rattle.format.specs.Slots.{picks_from}
use Rattle.format.specs.Verdict.{row_limit, mask_verdict, journal_verdict}
use Rattle.format.specs.Mask as Masks
use Rattle.format.specs.Mask.{count, mask_length, route_of, entries_for, entries}
use Rattle.format.specs.Put.{Wrote}
use Rattle.format.specs.Refusal.{Refusal, unrefused, refused_by, of_verdict, when, ◌then◌, after}
use Rattle.format.specs.Reason.{reason_of}
use Rattle.format.specs.Answer.{Call, own_answer, ready_with, refused_for, wrong_count, list_short, stores, preparing, mask_refusal, prepared_at, prepared, prepared_list, Prepares, too_long, refusal_of}
use Rattle.format.proofs.Put.{wrote-front}
use Rattle.format.proofs.Reasons.{own_answer-err}
use Rattle.format.proofs.SlotLaws.{count-le}
use Rattle.slots.specs.declared.Bits.{Bits}
use Rattle.slots.specs.Source.{slot_of, Lies}
use Rattle.slots.specs.Node.{bits_of}
use Rattle.slots.proofs.Masked.{mask-picks, mask-count, mask-runs, mask-lies, mask-short}
use Rattle.predicate.specs.Entries.{entries_on}
use Rattle.prepare.specs.Prepare.{Counted, Answered}

-- ---- the list's entries are those that `format` says

entries_by : (r : Route) (m : List ℕ) → entries_on r (slot_of m (bits_of m 0)) (rows m 0) ≡ entries_for r m
unfolding entries_for
entries_by route.None m = refl
entries_by route.All m = refl
entries_by route.Slices m = mask-runs m
entries_by route.Indices m = mask-picks m

pub mask-entries : (m : List ℕ) → entries_on (Masks.route m) (slot_of m (bits_of m 0)) (rows m 0) ≡ entries m
unfolding entries
mask-entries m = entries_by (Masks.route m) m

-- ---- an accepted mask's bits and count, as the code has them

module _ {m : List ℕ} {b : Bits} {kept : ℕ} (f : Counted m b kept) where
  pub kept-is : kept ≡ length (picks_from (slot_of m b) b.len 0)
  kept-is = rw f.bits (f.counted ∙ sym (mask-count m))

  pub lies : Lies m b
  lies = rw f.bits (mask-lies m f.accepted)

  pub few-slots : b.len ≤ row_limit
  few-slots = rw f.bits (mask-short m f.accepted)

  pub few-kept : kept ≤ row_limit
  few-kept = let l = few-slots in let h = kept-is in omega (arith, count-le (slot_of m b) b.len 0)

  route-is : route_of b.len kept ≡ Masks.route m
  unfolding Masks.route mask_length
  route-is = rw (f.bits, f.counted)

  pub entries-are : {r : Route} → r ≡ route_of b.len kept → entries_on r (slot_of m b) b.len ≡ entries m
  entries-are q = rw (q ∙ route-is, f.bits) (mask-entries m)

  -- what such a mask is answered
  pub ready : {r : Route} → r ≡ route_of b.len kept → ready_with kept b.len r ≡ ready_with (count m) (mask_length m) (Masks.route m)
  unfolding mask_length
  ready q = rw (q ∙ route-is, f.counted, f.bits)

-- ---- once the mask is accepted and its count right

module _ (m old : List ℕ) (t : Bool) where
  pub unasked : {r : Result Ready Refused} → t ≡ false → r ≡ ready_with (count m) (mask_length m) (Masks.route m) → Answered (preparing m None t old) r old
  unfolding list_short when prepared_at after stores over
  unasked e q = rw e (record { answered = q; listed = refl })

  is-short : t ≡ true → length old < length (entries m) → list_short (preparing m None t old) ≡ true
  unfolding list_short
  is-short e l = rw e (lt-ltb _ _ l)

  is-long : t ≡ true → length (entries m) ≤ length old → list_short (preparing m None t old) ≡ false
  unfolding list_short
  is-long e l = rw e (le-ltb _ _ l)

  pub short : t ≡ true → length old < length (entries m) → Answered (preparing m None t old) (refused_for Listing Journal) old
  unfolding when prepared_at after reason_of
  short e l = record { answered = rw (is-short e l); listed = rw (is-short e l) }

  pub filled : {r : Result Ready Refused} {new : List ℕ} {n : ℕ} → t ≡ true → length (entries m) ≤ length old → Wrote old 0 (entries m) new n → r ≡ ready_with (count m) (mask_length m) (Masks.route m)
      → Answered (preparing m None t old) r new
  unfolding when prepared_at after stores
  filled e l w q = record { answered = rw (is-long e l) q; listed = rw (is-long e l, e) (wrote-front w l) }

-- ---- the whole answer

module _ (m old : List ℕ) (t : Bool) (st : Option ℕ) where
  -- the stated count plays no part in 12, in the answer and in the list
  short-same : list_short (preparing m st t old) ≡ list_short (preparing m None t old)
  unfolding list_short
  short-same = refl

  answer-same : (f : Refusal Pack) → prepared_at f (preparing m st t old) ≡ prepared_at f (preparing m None t old)
  unfolding prepared_at
  answer-same unrefused = refl
  answer-same (refused_by n p) = refl

  stores_same : stores (preparing m st t old) ≡ stores (preparing m None t old)
  unfolding stores
  stores_same = refl

  pub listed : {r : Result Ready Refused} {new : List ℕ} → mask_verdict m ≡ 0 → wrong_count st (count m) ≡ false → Answered (preparing m None t old) r new → Prepares (preparing m st t old) r new
  unfolding prepared prepared_list mask_refusal of_verdict when ◌then◌
  listed v e a = record { answered = rw (v, e, short-same, answer-same) a.answered; listed = rw (v, e, short-same, stores_same) a.listed }

  pub miscounted : mask_verdict m ≡ 0 → wrong_count st (count m) ≡ true → Prepares (preparing m st t old) (refused_for Count Mask) old
  unfolding prepared prepared_list mask_refusal of_verdict when ◌then◌ prepared_at after reason_of
  miscounted v e = record { answered = rw (v, e); listed = rw (v, e) }

  pub unaccepted : {f : Refused} → Err f ≡ own_answer Mask (mask_verdict m) → Prepares (preparing m st t old) (Err f) old
  unfolding prepared prepared_list mask_refusal ◌then◌ prepared_at after
  unaccepted e = let own = own_answer-err _ e in record { answered = rw (own.0, own.1); listed = rw own.0 }

-- ---- the slip is that of a whole call, whose journal is accepted and not too short

then-on : {n : ℕ} {p : Pack} (a b d rest : Refusal Pack) → (a then b then d) ≡ refused_by n p → (a then b then unrefused then unrefused then d then rest) ≡ refused_by n p
unfolding ◌then◌
then-on (refused_by k q) b d rest e = e
then-on unrefused (refused_by k q) d rest e = e
then-on unrefused unrefused (refused_by k q) rest e = e
then-on unrefused unrefused unrefused rest e = let z : ◌≡◌ {A = ℕ} 0 1 = cc in absurd (omega arith)

pub same-slip : (c : Call) {n : ℕ} {p : Pack} → journal_verdict c.journal ≡ 0 → too_long c ≡ false → mask_refusal c ≡ refused_by n p → refusal_of c ≡ refused_by n p
unfolding refusal_of mask_refusal of_verdict when
same-slip c v l e = rw (v, l) (then-on _ _ _ _ e)
