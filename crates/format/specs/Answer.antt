-- A whole call: its answer, and its output, list and scratch as it returns (docs/FORMAT.md, 10 and 11). Assumes nothing.
use Rattle.std.specs.Prelude.{◌≡◌, ℕ, zero, suc, Bool, false, cond, not, ◌&&◌, ◌||◌, List, [], length, replicate, ◌==◌, nat_lt, Option, None, Some, Result, Ok, Err}
use Rattle.format.specs.declared.Pack.{Pack}
use Rattle.format.specs.declared.Pack.TheVariants.{Mask, Journal}
use Rattle.format.specs.declared.Route.{Route}
use Rattle.format.specs.declared.Reason.{Reason}
use Rattle.format.specs.declared.Refused.{Refused}
use Rattle.format.specs.declared.Done.{Done}
use Rattle.format.specs.declared.Ready.{Ready}
use Rattle.format.specs.Bytes.{bytes_for, sum_below}
use Rattle.format.specs.Node.{node_count, rows, of_kind, child}
use Rattle.format.specs.Verdict.{mask_verdict, journal_verdict, pack_limit}
use Rattle.format.specs.Mask.{picks, count, route, mask_length, entries}
use Rattle.format.specs.Write.{extract}
use Rattle.format.specs.Refusal.{Refusal, unrefused, refused_by, of_verdict, when, ◌then◌, after}
use Rattle.format.specs.Reason.{reason_of}

-- what a caller hands over: two packs, a stated count or none, whether the list is asked for, and what the lent buffers hold at entry
pub record Call : Type 0 where
  pub mask : List ℕ
  pub journal : List ℕ
  pub stated : Option ℕ
  pub asked : Bool
  pub list : List ℕ
  pub scratch : List ℕ
  pub output : List ℕ

-- a call from a function's arguments
abbrev pub call_of : List ℕ → List ℕ → Option ℕ → Bool → List ℕ → List ℕ → List ℕ → Call
call_of m j count asked list scratch output =
    record { mask = m; journal = j; stated = count; asked = asked; list = list; scratch = scratch; output = output }

-- node i is a runs node or a list: which rows of its child are kept, the scratch says by a bit for each
unfoldable pub takes_scratch : List ℕ → ℕ → Bool
takes_scratch b i = of_kind 9 b i || of_kind 13 b i || of_kind 14 b i

-- the scratch needed: for each such node, child rows / 8 rounded up, summed
unfoldable pub scratch_needed : List ℕ → ℕ
scratch_needed b = sum_below (λ i. cond (takes_scratch b i) (bytes_for (rows b (child i))) 0) (node_count b)

-- 10: mask longer than journal
unfoldable pub too_long : Call → Bool
too_long c = nat_lt (rows c.journal 0) (mask_length c.mask)

-- 11: stated count wrong
unfoldable pub wrong_count : Option ℕ → ℕ → Bool
wrong_count None n = false
wrong_count (Some k) n = not (k == n)

-- 12: list asked for and short
unfoldable pub list_short : Call → Bool
list_short c = c.asked && nat_lt (length c.list) (length (entries c.mask))

-- 13: scratch short
unfoldable pub scratch_short : Call → Bool
scratch_short c = nat_lt (length c.scratch) (scratch_needed c.journal)

-- the extract that the call is to give
unfoldable pub extract_of : Call → List ℕ
extract_of c = extract c.journal (picks c.mask)

-- 14: output short, or extract over 16,777,216 bytes
unfoldable pub output_short : ℕ → ℕ → Bool
output_short room bytes = nat_lt room bytes || nat_lt pack_limit bytes

-- the order: mask 1 to 8, 20, 9, then 11; journal 1 to 8, 20, then 10, 12, 13, 14
unfoldable pub refusal_of : Call → Refusal Pack
refusal_of c =
    of_verdict Mask (mask_verdict c.mask)
    then when (wrong_count c.stated (count c.mask)) 11 Mask
    then of_verdict Journal (journal_verdict c.journal)
    then when (too_long c) 10 Journal
    then when (list_short c) 12 Journal
    then when (scratch_short c) 13 Journal
    then when (output_short (length c.output) (length (extract_of c))) 14 Journal

-- the answer of a call that is refused, by reason and pack; and of one that is not, by its four parts
abbrev pub refused_for : {T : Type 0} → Reason → Pack → Result T Refused
refused_for r p = Err (record { reason = r; pack = p })

abbrev pub done_with : ℕ → ℕ → Route → ℕ → Result Done Refused
done_with kept slots route bytes = Ok (record { kept = kept; slots = slots; route = route; bytes = bytes })

-- a pack's own verdict as an answer: 0 lets the call go on, any other number refuses it and names the pack
unfoldable pub own_answer : Pack → ℕ → Result (Unit {0}) Refused
own_answer p zero = Ok tt
own_answer p (suc n) = refused_for (reason_of (suc n)) p

-- the answer of a call
unfoldable pub answer_at : Refusal Pack → Call → Result Done Refused
answer_at unrefused c = done_with (count c.mask) (mask_length c.mask) (route c.mask) (length (extract_of c))
answer_at (refused_by n p) c = refused_for (reason_of n) p

unfoldable pub answer : Call → Result Done Refused
answer c = answer_at (refusal_of c) c

unfoldable pub output_after : Call → List ℕ
output_after c = after (refusal_of c) (extract_of c) c.output

-- the entries that the call stores: none if no list is asked for
unfoldable pub stores : Call → List ℕ
stores c = cond c.asked (entries c.mask) []

unfoldable pub list_after : Call → List ℕ
list_after c = after (refusal_of c) (stores c) c.list

unfoldable pub scratch_after : Call → List ℕ
scratch_after c = after (refusal_of c) (replicate (scratch_needed c.journal) 0) c.scratch

-- the whole promise of a call: its answer, and output, list and scratch as it returns
pub record Returned (c : Call) (r : Result Done Refused) (output list scratch : List ℕ) : Type 0 where
  pub answered : r ≡ answer c
  pub written : output ≡ output_after c
  pub listed : list ≡ list_after c
  pub cleared : scratch ≡ scratch_after c

-- ---- a mask prepared alone: its own refusals, 11 and 12, as a call would refuse it

-- such a call has a mask, a stated count and a list; what it lacks is not looked at
abbrev pub preparing : List ℕ → Option ℕ → Bool → List ℕ → Call
preparing m count asked list = call_of m [] count asked list [] []

-- the order: mask 1 to 8, 20, 9, then 11, then 12, which names the journal here too
unfoldable pub mask_refusal : Call → Refusal Pack
mask_refusal c =
    of_verdict Mask (mask_verdict c.mask) then when (wrong_count c.stated (count c.mask)) 11 Mask then when (list_short c) 12 Journal

abbrev pub ready_with : ℕ → ℕ → Route → Result Ready Refused
ready_with kept slots route = Ok (record { kept = kept; slots = slots; route = route })

unfoldable pub prepared_at : Refusal Pack → Call → Result Ready Refused
prepared_at unrefused c = ready_with (count c.mask) (mask_length c.mask) (route c.mask)
prepared_at (refused_by n p) c = refused_for (reason_of n) p

unfoldable pub prepared : Call → Result Ready Refused
prepared c = prepared_at (mask_refusal c) c

unfoldable pub prepared_list : Call → List ℕ
prepared_list c = after (mask_refusal c) (stores c) c.list

-- the whole promise: the answer, and the list as it returns
pub record Prepares (c : Call) (r : Result Ready Refused) (list : List ℕ) : Type 0 where
  pub answered : r ≡ prepared c
  pub listed : list ≡ prepared_list c

-- to unfold `opened` is to unfold all of this module
unfoldable pub opened : Unit {0}
unfolding takes_scratch scratch_needed too_long wrong_count list_short scratch_short extract_of output_short refusal_of own_answer answer_at answer output_after stores list_after scratch_after mask_refusal prepared_at prepared prepared_list
opened = tt
