-- Calls of the C entry point `filter` that meet every premise of demand 3 and differ in all that must not show, the numbers that are passed in the place of a
-- count among it: two that succeed, and two that are both refused by 14. The packs are those of format/proofs/Cases.antt. Assumes nothing.
use Prim.Native.Nat.{ℕ}
use mathlib.Core.Bool.{Bool, true, false}
use mathlib.Core.List.{List, [], ◌∷◌}
use mathlib.Core.Path.{◌≡◌, refl, ap}
use lib.ListN.{replicate}
use Rattle.std.specs.Bool.{then_some}
use Rattle.format.specs.declared.Route.TheVariants.{Indices}
use Rattle.format.specs.Bytes as Bytes
use Rattle.format.specs.Node as Node
use Rattle.format.specs.Verdict as Verdict
use Rattle.format.specs.Mask as Masks
use Rattle.format.specs.Mask.{route_number}
use Rattle.format.specs.Kept as Kept
use Rattle.format.specs.Write as Write
use Rattle.format.specs.Refusal as Refusals
use Rattle.format.specs.Reason as Reasons
use Rattle.format.specs.Answer as Answers
use Rattle.format.specs.Answer.{call_of, list_short, scratch_short, answer, output_after, list_after, scratch_after}
use Rattle.format.proofs.Demand3.{Alike, Same}
use Rattle.format.proofs.Cases.{marked, pack, old_pack, counting, node, mask_of, call, abcde, pieces, place, tight, tight_journal, loose_journal, one_way, other_way, premises-hold, premises-succeed}
use Rattle.entries.specs.Numbers.{refusal_number, answer_numbers}
use Rattle.capi.proofs.Demand3.{Entry, seen, demand3}

-- a call of the entry point: its contract leaves nothing open, so what it answers and leaves is what the definitions say of its arguments
abbrev ran : List ℕ → List ℕ → Bool → ℕ → Bool → List ℕ → List ℕ → List ℕ → Entry
ran m j states stated asked list scratch output =
    let c = call_of m j (then_some states stated) asked list scratch output in
    record {
      mask = m;
      journal = j;
      states = states;
      stated = stated;
      asked = asked;
      list = list;
      scratch = scratch;
      output = output;
      result = refusal_number (answer c);
      numbers = answer_numbers (answer c);
      output_after = output_after c;
      list_after = list_after c;
      scratch_after = scratch_after c;
      ensures = record { slip = refl; numbered = refl; written = refl; listed = refl; cleared = refl };
    }

-- a mask with the old mark, a skip, true bits that are null, and spare bits set; it picks the rows of `mask_of 5 0x09`
unfoldable other_mask : List ℕ
other_mask = old_pack (0x7F ∷ 0xD2 ∷ []) (node 1 0 5 1 0 1 0 ∷ []) 5

-- ---- no count stated, and another number in its place

unstated : Entry
unstated = ran (mask_of 5 0x09) tight_journal false 7 false [] (9 ∷ 9 ∷ []) (replicate 528 7)

unstated' : Entry
unstated' = ran other_mask loose_journal false 0 true (1 ∷ 2 ∷ 3 ∷ []) (8 ∷ 8 ∷ 8 ∷ []) (replicate 528 7)

unstated-alike : Same (seen unstated) (seen unstated')
unfolding unstated unstated' other_mask one_way other_way call
unstated-alike = demand3 unstated unstated' premises-hold

unstated-succeeds : unstated.result ≡ 0
unfolding unstated one_way call
unstated-succeeds = ap refusal_number premises-succeed

unstated-gives : unstated.numbers ≡ 2 ∷ 5 ∷ route_number Indices ∷ 520 ∷ []
unfolding unstated one_way call
unstated-gives = ap answer_numbers premises-succeed

-- ---- one byte of output too few, no count stated, and another number in its place

short : Entry
short = ran (mask_of 5 0x09) tight_journal false 5 false [] (9 ∷ 9 ∷ []) (replicate 519 7)

short' : Entry
short' = ran other_mask loose_journal false 6 true (1 ∷ 2 ∷ 3 ∷ []) (8 ∷ 8 ∷ 8 ∷ []) (replicate 519 7)

-- no premise but `same_output` looks at the output
short-alike : Same (seen short) (seen short')
unfolding short short' other_mask one_way other_way call list_short scratch_short
short-alike =
    let hold : Alike one_way other_way = premises-hold in
    demand3 short short'
    (record {
      mask_c = hold.mask_c;
      mask_d = hold.mask_d;
      journal_c = hold.journal_c;
      journal_d = hold.journal_d;
      one_length = hold.one_length;
      same_picks = hold.same_picks;
      long_c = hold.long_c;
      long_d = hold.long_d;
      same_columns = hold.same_columns;
      same_kept = hold.same_kept;
      list_c = hold.list_c;
      list_d = hold.list_d;
      scratch_c = hold.scratch_c;
      scratch_d = hold.scratch_d;
      same_output = refl;
      same_stated = refl;
    })

short-refused : short.result ≡ 14
unfolding Bytes.opened Node.opened Verdict.opened Masks.opened Kept.opened Write.opened Refusals.opened Reasons.opened Answers.opened marked pack old_pack counting node mask_of abcde pieces place tight tight_journal short
short-refused = refl
