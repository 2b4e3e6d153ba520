-- Calls of `filter` that meet every premise of demand 3 and differ in all that must not show: two that state no count and succeed, two that state one
-- and succeed, two that are both refused by 14. Their journals have all kinds between them. Assumes nothing.
use Prim.Native.Nat.{ℕ, ◌≤◌}
use Rattle.std.proofs.Common.{Option, Some, None}
use mathlib.Core.Bool.{Bool, true, false}
use mathlib.Core.List.{List, [], ◌∷◌, ◌++◌}
use mathlib.Core.Path.{◌≡◌, refl, sym, ◌∙◌}
use lib.Dec.{lit≤}
use lib.ListN.{length, replicate}
use Rattle.format.specs.declared.Pack.TheVariants.{Journal}
use Rattle.format.specs.declared.Route.TheVariants.{Indices}
use Rattle.format.specs.declared.Reason.TheVariants.{Output}
use Rattle.format.specs.Bytes as Bytes
use Rattle.format.specs.Node as Node
use Rattle.format.specs.Node.{no_bitmap, rows}
use Rattle.format.specs.Verdict as Verdict
use Rattle.format.specs.Verdict.{mask_verdict, journal_verdict}
use Rattle.format.specs.Mask as Masks
use Rattle.format.specs.Mask.{picks, mask_length, entries}
use Rattle.format.specs.Kept as Kept
use Rattle.format.specs.Kept.{columns, kept_part}
use Rattle.format.specs.Write as Write
use Rattle.format.specs.Write.{numbers}
use Rattle.format.specs.Refusal as Refusals
use Rattle.format.specs.Reason as Reasons
use Rattle.format.specs.Answer as Answers
use Rattle.format.specs.Answer.{call_of, done_with, refused_for, scratch_needed, list_short, scratch_short, answer, output_after, list_after, scratch_after}
use Rattle.format.proofs.Demand3.{Alike, Same}
use Rattle.format.proofs.Cases.{marked, pack, old_pack, counting, node, mask_of, call, abcde, pieces, place, tight_journal, loose_journal, one_way, other_way, premises-hold, premises-succeed}
use Rattle.filter.proofs.Demand3.{Filtered, seen, demand3}

-- a call of `filter`: its contract leaves nothing open, so what it answers and leaves is what the definitions say of its arguments
abbrev ran : List ℕ → List ℕ → Option ℕ → Bool → List ℕ → List ℕ → List ℕ → Filtered
ran m j stated asked list scratch output =
    let c = call_of m j stated asked list scratch output in
    record {
      mask = m;
      journal = j;
      stated = stated;
      asked = asked;
      list = list;
      scratch = scratch;
      output = output;
      answer = answer c;
      output_after = output_after c;
      list_after = list_after c;
      scratch_after = scratch_after c;
      ensures = record { answered = refl; written = refl; listed = refl; cleared = refl };
    }

-- ---- no count stated: a struct of native, texts, runs, a dictionary, bits and lists (format/proofs/Cases.antt)

unstated : Filtered
unstated = ran (mask_of 5 0x09) tight_journal None false [] (9 ∷ 9 ∷ []) (replicate 528 7)

unstated' : Filtered
unstated' = ran (old_pack (0x7F ∷ 0xD2 ∷ []) (node 1 0 5 1 0 1 0 ∷ []) 5) loose_journal None true (1 ∷ 2 ∷ 3 ∷ []) (8 ∷ 8 ∷ 8 ∷ []) (replicate 528 7)

unstated-alike : Same (seen unstated) (seen unstated')
unfolding unstated unstated' one_way other_way call
unstated-alike = demand3 unstated unstated' premises-hold

unstated-succeeds : unstated.answer ≡ done_with 2 5 Indices 520
unfolding unstated one_way call
unstated-succeeds = premises-succeed

-- ---- a union of fixed entries, texts with offsets of 64 bits, views, list views of 32 and of 64 bits, and lists with offsets of 64 bits; rows 0 and 2 are kept, and row 2
-- of the list views of 64 bits is null

fghijklmn : List ℕ
fghijklmn = 0x66 ∷ 0x67 ∷ 0x68 ∷ 0x69 ∷ 0x6A ∷ 0x6B ∷ 0x6C ∷ 0x6D ∷ 0x6E ∷ []

-- three rows, no skip, one bitmap
tight : List (List ℕ)
tight =
    (0 ∷ 1 ∷ 4 ∷ [])
    ∷ (0x41 ∷ 0x42 ∷ 0x43 ∷ 1 ∷ 1 ∷ 1 ∷ 0x44 ∷ 0x45 ∷ 0x46 ∷ [])
    ∷ numbers 8 (0 ∷ 2 ∷ 2 ∷ 5 ∷ [])
    ∷ abcde
    ∷ numbers 4 (2 ∷ 0x6968 ∷ 0 ∷ 0 ∷ 0 ∷ 0 ∷ 0 ∷ 0 ∷ 13 ∷ 0x65646362 ∷ 0 ∷ 1 ∷ [])
    ∷ (abcde ++ fghijklmn)
    ∷ numbers 4 (0 ∷ 1 ∷ 2 ∷ [])
    ∷ numbers 4 (2 ∷ 0 ∷ 1 ∷ [])
    ∷ numbers 2 (300 ∷ 400 ∷ 500 ∷ [])
    ∷ (0x03 ∷ [])
    ∷ numbers 8 (1 ∷ 0 ∷ 0 ∷ [])
    ∷ numbers 8 (1 ∷ 0 ∷ 0 ∷ [])
    ∷ numbers 4 (7 ∷ 8 ∷ [])
    ∷ numbers 8 (0 ∷ 2 ∷ 2 ∷ 3 ∷ [])
    ∷ numbers 2 (40 ∷ 41 ∷ 42 ∷ [])
    ∷ []

tight_union : List ℕ
tight_union =
    pack (pieces tight)
    (node 11 0 3 0 6 no_bitmap (place 0 tight)
    ∷ node 3 3 3 0 0 no_bitmap (place 1 tight)
    ∷ (5 ∷ 0 ∷ 3 ∷ 0 ∷ 0 ∷ no_bitmap ∷ place 2 tight ∷ place 3 tight ∷ 5 ∷ 0 ∷ [])
    ∷ node 6 0 3 0 1 no_bitmap (place 4 tight)
    ∷ node 2 1 14 0 0 no_bitmap (place 5 tight)
    ∷ (7 ∷ 0 ∷ 3 ∷ 0 ∷ 1 ∷ no_bitmap ∷ place 6 tight ∷ place 7 tight ∷ 0 ∷ 0 ∷ [])
    ∷ node 2 2 3 0 0 no_bitmap (place 8 tight)
    ∷ (8 ∷ 0 ∷ 3 ∷ 0 ∷ 1 ∷ place 9 tight ∷ place 10 tight ∷ place 11 tight ∷ 0 ∷ 1 ∷ [])
    ∷ node 2 4 2 0 0 no_bitmap (place 12 tight)
    ∷ node 14 0 3 0 1 no_bitmap (place 13 tight)
    ∷ node 2 2 3 0 0 no_bitmap (place 14 tight)
    ∷ [])
    3

-- the old mark, four rows, skips, bitmaps in which no kept row is null but that one, other ids, entries, texts, views, ranges and lists in the dropped rows, bytes and child
-- rows that no kept row has, a wild id and wild ranges before skip, spare bits set, a buffer that nothing uses
loose : List (List ℕ)
loose =
    (0xAA ∷ 0xAA ∷ [])
    ∷ (9 ∷ 0 ∷ 2 ∷ 4 ∷ 3 ∷ [])
    ∷ (0x41 ∷ 0x42 ∷ 0x43 ∷ 9 ∷ 9 ∷ 9 ∷ 0x44 ∷ 0x45 ∷ 0x46 ∷ 8 ∷ 8 ∷ 8 ∷ [])
    ∷ (0xF5 ∷ [])
    ∷ numbers 8 (0 ∷ 1 ∷ 3 ∷ 7 ∷ 10 ∷ 11 ∷ [])
    ∷ (0x78 ∷ 0x61 ∷ 0x62 ∷ 0x77 ∷ 0x78 ∷ 0x79 ∷ 0x7A ∷ 0x63 ∷ 0x64 ∷ 0x65 ∷ 0x71 ∷ 0x72 ∷ [])
    ∷ (replicate 32 0xEE ++ numbers 4 (2 ∷ 0x6968 ∷ 0 ∷ 0 ∷ 14 ∷ 0x64636261 ∷ 0 ∷ 0 ∷ 13 ∷ 0x65646362 ∷ 0 ∷ 1 ∷ 2 ∷ 0x7A7A ∷ 0 ∷ 0 ∷ []))
    ∷ ((1 ∷ 2 ∷ 3 ∷ []) ++ abcde ++ fghijklmn)
    ∷ numbers 4 (0 ∷ 3 ∷ 2 ∷ 3 ∷ [])
    ∷ numbers 4 (2 ∷ 0 ∷ 1 ∷ 0 ∷ [])
    ∷ numbers 2 (9 ∷ 300 ∷ 400 ∷ 500 ∷ [])
    ∷ (0xF2 ∷ [])
    ∷ numbers 8 (99 ∷ 1 ∷ 2 ∷ 0 ∷ 1 ∷ [])
    ∷ numbers 8 (99 ∷ 1 ∷ 0 ∷ 0 ∷ 1 ∷ [])
    ∷ numbers 4 (7 ∷ 8 ∷ [])
    ∷ (0x03 ∷ [])
    ∷ numbers 2 (60 ∷ 40 ∷ 41 ∷ 61 ∷ 42 ∷ 62 ∷ [])
    ∷ numbers 8 (99 ∷ 1 ∷ 3 ∷ 4 ∷ 5 ∷ 5 ∷ [])
    ∷ []

loose_union : List ℕ
loose_union =
    old_pack (pieces loose)
    (node 11 0 4 1 6 no_bitmap (place 1 loose)
    ∷ node 3 3 4 0 0 (place 3 loose) (place 2 loose)
    ∷ (5 ∷ 0 ∷ 4 ∷ 1 ∷ 0 ∷ no_bitmap ∷ place 4 loose ∷ place 5 loose ∷ 12 ∷ 0 ∷ [])
    ∷ node 6 0 4 2 1 no_bitmap (place 6 loose)
    ∷ node 2 1 14 3 0 no_bitmap (place 7 loose)
    ∷ (7 ∷ 0 ∷ 4 ∷ 0 ∷ 1 ∷ no_bitmap ∷ place 8 loose ∷ place 9 loose ∷ 0 ∷ 0 ∷ [])
    ∷ node 2 2 3 1 0 no_bitmap (place 10 loose)
    ∷ (8 ∷ 0 ∷ 4 ∷ 1 ∷ 1 ∷ place 11 loose ∷ place 12 loose ∷ place 13 loose ∷ 0 ∷ 0 ∷ [])
    ∷ node 2 4 2 0 0 (place 15 loose) (place 14 loose)
    ∷ node 14 0 4 1 1 no_bitmap (place 17 loose)
    ∷ node 2 2 6 0 0 no_bitmap (place 16 loose)
    ∷ [])
    4

-- the masks T, F, T and, behind a skip of two slots, T, null, T with its null slot set
plain_mask : List ℕ
plain_mask = mask_of 3 0x05

null_mask : List ℕ
null_mask = pack (0xFF ∷ 0xF4 ∷ []) (counting 1 0 3 2 0 1 0 1 ∷ []) 3

-- ---- each premise by itself, computed

plain-accepted : mask_verdict plain_mask ≡ 0
unfolding Bytes.opened Node.opened Verdict.opened Write.opened marked pack old_pack counting node mask_of plain_mask
plain-accepted = refl

null-accepted : mask_verdict null_mask ≡ 0
unfolding Bytes.opened Node.opened Verdict.opened Write.opened marked pack old_pack counting node null_mask
null-accepted = refl

tight-accepted : journal_verdict tight_union ≡ 0
unfolding Bytes.opened Node.opened Verdict.opened Write.opened marked pack old_pack counting node abcde pieces place fghijklmn tight tight_union
tight-accepted = refl

loose-accepted : journal_verdict loose_union ≡ 0
unfolding Bytes.opened Node.opened Verdict.opened Write.opened marked pack old_pack counting node abcde pieces place fghijklmn loose loose_union
loose-accepted = refl

as_long : mask_length plain_mask ≡ mask_length null_mask
unfolding Bytes.opened Node.opened Masks.opened Write.opened marked pack old_pack counting node mask_of plain_mask null_mask
as_long = refl

one-pick : picks plain_mask ≡ 0 ∷ 2 ∷ []
unfolding Bytes.opened Node.opened Masks.opened Write.opened marked pack old_pack counting node mask_of plain_mask
one-pick = refl

same-pick : picks null_mask ≡ 0 ∷ 2 ∷ []
unfolding Bytes.opened Node.opened Masks.opened Write.opened marked pack old_pack counting node null_mask
same-pick = refl

tight-long : mask_length plain_mask ≤ rows tight_union 0
unfolding Bytes.opened Node.opened Masks.opened Write.opened marked pack old_pack counting node mask_of abcde pieces place fghijklmn tight tight_union plain_mask
tight-long = lit≤ tt

loose-long : mask_length null_mask ≤ rows loose_union 0
unfolding Bytes.opened Node.opened Masks.opened Write.opened marked pack old_pack counting node abcde pieces place fghijklmn loose loose_union null_mask
loose-long = lit≤ tt

same-columns : columns tight_union ≡ columns loose_union
unfolding Bytes.opened Node.opened Kept.opened Write.opened marked pack old_pack counting node abcde pieces place fghijklmn tight tight_union loose loose_union
same-columns = refl

same_kept-are : kept_part tight_union (0 ∷ 2 ∷ []) ≡ kept_part loose_union (0 ∷ 2 ∷ [])
unfolding Bytes.opened Node.opened Kept.opened Write.opened marked pack old_pack counting node abcde pieces place fghijklmn tight tight_union loose loose_union
same_kept-are = refl

two-entries : length (entries null_mask) ≡ 2
unfolding Bytes.opened Node.opened Masks.opened Write.opened marked pack old_pack counting node null_mask
two-entries = refl

tight-scratch : scratch_needed tight_union ≡ 1
unfolding Bytes.opened Node.opened Write.opened Answers.opened marked pack old_pack counting node abcde pieces place fghijklmn tight tight_union
tight-scratch = refl

loose-scratch : scratch_needed loose_union ≡ 1
unfolding Bytes.opened Node.opened Write.opened Answers.opened marked pack old_pack counting node abcde pieces place fghijklmn loose loose_union
loose-scratch = refl

-- whatever count is stated and whatever the outputs are, if both calls have the same
alike : (stated : Option ℕ) (output : List ℕ)
    → Alike (call_of plain_mask tight_union stated false [] (9 ∷ []) output) (call_of null_mask loose_union stated true (1 ∷ 2 ∷ 3 ∷ []) (8 ∷ []) output)
unfolding list_short scratch_short
alike stated output =
    record {
      mask_c = plain-accepted;
      mask_d = null-accepted;
      journal_c = tight-accepted;
      journal_d = loose-accepted;
      one_length = as_long;
      same_picks = one-pick ∙ sym same-pick;
      long_c = tight-long;
      long_d = loose-long;
      same_columns = same-columns;
      same_kept = rw (one-pick, same-pick) same_kept-are;
      list_c = refl;
      list_d = rw two-entries;
      scratch_c = rw tight-scratch;
      scratch_d = rw loose-scratch;
      same_output = refl;
      same_stated = refl;
    }

-- ---- a count stated, and right

counted : Filtered
counted = ran plain_mask tight_union (Some 2) false [] (9 ∷ []) (replicate 656 7)

counted' : Filtered
counted' = ran null_mask loose_union (Some 2) true (1 ∷ 2 ∷ 3 ∷ []) (8 ∷ []) (replicate 656 7)

counted-alike : Same (seen counted) (seen counted')
unfolding counted counted'
counted-alike = demand3 counted counted' (alike (Some 2) (replicate 656 7))

counted-succeeds : counted.answer ≡ done_with 2 3 Indices 656
unfolding Bytes.opened Node.opened Verdict.opened Masks.opened Kept.opened Write.opened Refusals.opened Answers.opened marked pack old_pack counting node mask_of abcde pieces place fghijklmn tight tight_union plain_mask counted
counted-succeeds = refl

-- ---- one byte of output too few

short : Filtered
short = ran plain_mask tight_union None false [] (9 ∷ []) (replicate 655 7)

short' : Filtered
short' = ran null_mask loose_union None true (1 ∷ 2 ∷ 3 ∷ []) (8 ∷ []) (replicate 655 7)

short-alike : Same (seen short) (seen short')
unfolding short short'
short-alike = demand3 short short' (alike None (replicate 655 7))

short-refused : short.answer ≡ refused_for Output Journal
unfolding Bytes.opened Node.opened Verdict.opened Masks.opened Kept.opened Write.opened Refusals.opened Reasons.opened Answers.opened marked pack old_pack counting node mask_of abcde pieces place fghijklmn tight tight_union plain_mask short
short-refused = refl
