-- The bench cases marked P, and each refusal's example, as one table proved by one statement, by computation (docs/FORMAT.md, 4, 6, 8 and 11). Assumes nothing.
use Rattle.std.proofs.Common.{Option, Some as stated, None as unstated, Result, Ok, Err, ◌≡◌, ℕ, suc, ◌-◌, Bool, true, false, ◌&&◌, eqb, List, [], ◌∷◌, ◌++◌, map, length, take, replicate, refl, ap₂, lit≤, eqb-true}
use mathlib.Core.Bool.{false≢true, and-eq-true_iff}
use Rattle.format.specs.declared.Route.{Route}
use Rattle.format.specs.declared.Route.TheVariants.{None, All, Slices, Indices}
use Rattle.format.specs.declared.Pack.{Pack}
use Rattle.format.specs.declared.Pack.TheVariants.{Mask, Journal}
use Rattle.format.specs.declared.Done.{Done}
use Rattle.format.specs.declared.Refused.{Refused}
use Rattle.format.specs.Bytes as Bytes
use Rattle.format.specs.Bytes.{table, join, padded, one}
use Rattle.format.specs.Words as Words
use Rattle.format.specs.Words.{compress}
use Rattle.format.specs.Node as Node
use Rattle.format.specs.Node.{mark, old_mark, no_bitmap}
use Rattle.format.specs.Verdict as Verdict
use Rattle.format.specs.Mask as Masks
use Rattle.format.specs.Mask.{by_route, route_number}
use Rattle.format.specs.Kept as Kept
use Rattle.format.specs.Write as Write
use Rattle.format.specs.Write.{numbers}
use Rattle.format.specs.Refusal as Refusals
use Rattle.format.specs.Reason as Reasons
use Rattle.format.specs.Reason.{reason_number, reason_of}
use Rattle.format.specs.Names.{pack_number}
use Rattle.format.specs.Answer as Answers
use Rattle.format.specs.Answer.{Call, done_with, refused_for, answer, output_after, list_after, scratch_after}
use Rattle.format.proofs.Demand3.{Alike}

-- a pack from its mark, its body, its nodes' fields, and the trailer's rows; one with the mark that is written, and one with the old mark
unfoldable pub marked : ℕ → List ℕ → List (List ℕ) → ℕ → List ℕ
marked m body nodes rows = padded body ++ join (map (numbers 4) nodes) ++ numbers 4 (length (padded body) ∷ length nodes ∷ rows ∷ m ∷ [])

unfoldable pub pack : List ℕ → List (List ℕ) → ℕ → List ℕ
pack = marked mark

unfoldable pub old_pack : List ℕ → List (List ℕ) → ℕ → List ℕ
old_pack = marked old_mark

-- a node by kind, param, rows, skip, kids, the places of its bitmap and its first buffer, and its null count; it has no second buffer. And one with no null row
unfoldable pub counting : ℕ → ℕ → ℕ → ℕ → ℕ → ℕ → ℕ → ℕ → List ℕ
counting kind param rows skip kids validity first nulls = kind ∷ param ∷ rows ∷ skip ∷ kids ∷ validity ∷ first ∷ 0 ∷ 0 ∷ nulls ∷ []

unfoldable pub node : ℕ → ℕ → ℕ → ℕ → ℕ → ℕ → ℕ → List ℕ
node kind param rows skip kids validity first = counting kind param rows skip kids validity first 0

-- a mask of n slots and no null; a column of numbers of 4 bytes; of texts, by their offsets; runs of such numbers; lists of them
unfoldable pub mask_of : ℕ → ℕ → List ℕ
mask_of n bits = pack (bits ∷ []) (node 1 0 n 0 0 no_bitmap 0 ∷ []) n

natives : List ℕ → List ℕ
natives ns = pack (numbers 4 ns) (node 2 4 (length ns) 0 0 no_bitmap 0 ∷ []) (length ns)

texts : ℕ → List ℕ → List ℕ → List ℕ
texts rows offsets bytes =
    pack (padded (numbers 4 offsets) ++ bytes)
    ((4 ∷ 0 ∷ rows ∷ 0 ∷ 0 ∷ no_bitmap ∷ 0 ∷ length (padded (numbers 4 offsets)) ∷ length bytes ∷ 0 ∷ []) ∷ []) rows

runs_of : ℕ → ℕ → List ℕ → List ℕ → List ℕ
runs_of rows skip ends values =
    pack (padded (numbers 4 ends) ++ numbers 4 values)
    (node 9 4 rows skip 1 no_bitmap 0 ∷ node 2 4 (length values) 0 0 no_bitmap (length (padded (numbers 4 ends))) ∷ []) rows

lists_of : ℕ → List ℕ → List ℕ → List ℕ
lists_of rows offsets values =
    pack (padded (numbers 4 offsets) ++ numbers 4 values)
    (node 13 0 rows 0 1 no_bitmap 0 ∷ node 2 4 (length values) 0 0 no_bitmap (length (padded (numbers 4 offsets))) ∷ []) rows

-- views, the first `skip` of them passed over, with one data buffer of the bytes 1 to 16; behind it a byte that may be their bitmap, and says that all are null
views_of : ℕ → ℕ → List (List ℕ) → List ℕ
views_of validity skip views =
    let n = length views - skip in
    let at = length (join views) in
    pack (join views ++ table suc 16 ++ (0 ∷ [])) (node 6 0 n skip 1 validity 0 ∷ node 2 1 16 0 0 no_bitmap at ∷ []) n

views_kept : List (List ℕ) → List ℕ
views_kept views =
    pack (join views ++ table suc 16) (node 6 0 (length views) 0 1 no_bitmap 0 ∷ node 2 1 16 0 0 no_bitmap (length (join views)) ∷ []) (length views)

-- a long view of the 13 bytes from the third on, and a short one of 3 bytes, by its last byte
long : List ℕ → List ℕ
long prefix = numbers 4 (13 ∷ []) ++ prefix ++ numbers 4 (0 ∷ 2 ∷ [])

short : ℕ → List ℕ
short last = numbers 4 (3 ∷ []) ++ (7 ∷ 8 ∷ 9 ∷ []) ++ replicate 8 0 ++ (last ∷ [])

-- a call; and one with no stated count and no list, two bytes of scratch and so many of output
unfoldable pub call : List ℕ → List ℕ → Option ℕ → Bool → List ℕ → List ℕ → List ℕ → Call
call m j count asked list scratch output =
    let mask' : List ℕ = m in
    let journal' : List ℕ = j in
    record { mask = mask'; journal = journal'; stated = count; asked = asked; list = list; scratch = scratch; output = output }

plain : ℕ → List ℕ → List ℕ → Call
plain room m j = call m j unstated false [] (9 ∷ 9 ∷ []) (replicate room 7)

-- an answer in numbers: kept, mask length, route, extract length; or a refusal's number, and its pack
in_numbers : Result Done Refused → List ℕ
in_numbers (Ok d) = d.kept ∷ d.slots ∷ route_number d.route ∷ d.bytes ∷ []
in_numbers (Err r) = reason_number r.reason ∷ pack_number r.pack ∷ []

-- what is found and what is expected: an answer, and output, list and scratch as the call returns; or a number
record Case : Type 0 where
  found : List (List ℕ)
  expected : List (List ℕ)

abbrev ends : Result Done Refused → List ℕ → List ℕ → List ℕ → List (List ℕ)
ends a output list scratch = in_numbers a ∷ output ∷ list ∷ scratch ∷ []

abbrev number : ℕ → List (List ℕ)
number n = (n ∷ []) ∷ []

outcome : Call → List (List ℕ)
outcome c = ends (answer c) (output_after c) (list_after c) (scratch_after c)

case : List (List ℕ) → List (List ℕ) → Case
case f e = record { found = f; expected = e }

-- a call that is refused changes nothing
refusal : ℕ → Pack → Call → Case
refusal n p c = case (outcome c) (ends (refused_for (reason_of n) p) c.output c.list c.scratch)

-- a call that keeps so many rows of so many by a route: the extract, one byte of output beyond it, and the scratch
keeps : ℕ → ℕ → Route → List ℕ → List ℕ → List ℕ → List ℕ → Case
keeps kept slots route m j new scratch =
    case (outcome (plain (suc (length new)) m j)) (ends (done_with kept slots route (length new)) (new ++ (7 ∷ [])) [] scratch)

untouched : List ℕ
untouched = 9 ∷ 9 ∷ []

unfoldable pub abcde : List ℕ
abcde = 0x61 ∷ 0x62 ∷ 0x63 ∷ 0x64 ∷ 0x65 ∷ []

five : List ℕ
five = natives (5 ∷ 6 ∷ 7 ∷ 8 ∷ 9 ∷ [])

p1 : List ℕ
p1 =
    0x05 ∷ 0 ∷ 0 ∷ 0 ∷ 0x08 ∷ 0 ∷ 0 ∷ 0
    ∷ 2 ∷ 0 ∷ 0 ∷ 0 ∷ 4 ∷ 0 ∷ 0 ∷ 0 ∷ 2 ∷ 0 ∷ 0 ∷ 0 ∷ 0 ∷ 0 ∷ 0 ∷ 0 ∷ 0 ∷ 0 ∷ 0 ∷ 0
    ∷ 0xFF ∷ 0xFF ∷ 0xFF ∷ 0xFF ∷ 0 ∷ 0 ∷ 0 ∷ 0 ∷ 0 ∷ 0 ∷ 0 ∷ 0 ∷ 0 ∷ 0 ∷ 0 ∷ 0 ∷ 0 ∷ 0 ∷ 0 ∷ 0
    ∷ 8 ∷ 0 ∷ 0 ∷ 0 ∷ 1 ∷ 0 ∷ 0 ∷ 0 ∷ 2 ∷ 0 ∷ 0 ∷ 0 ∷ 0x43 ∷ 0x4F ∷ 0x4C ∷ 0x51 ∷ []

-- T, null, T, F, with a null count
saying : ℕ → List ℕ
saying n = pack (0x07 ∷ 0x0D ∷ []) (counting 1 0 4 0 0 1 0 n ∷ []) 4

with_null : List ℕ
with_null = saying 1

-- 1, null, 3, with a null count
counted : ℕ → List ℕ
counted n = pack (padded (numbers 4 (1 ∷ 0 ∷ 3 ∷ [])) ++ (0x05 ∷ [])) (counting 2 4 3 0 0 16 0 n ∷ []) 3

-- 1, null, behind a null row that is skipped, with a null count
skipping : ℕ → List ℕ
skipping n = pack (padded (numbers 4 (9 ∷ 1 ∷ 0 ∷ [])) ++ (0x02 ∷ [])) (counting 2 4 2 1 0 16 0 n ∷ []) 2

-- 1, null, 3 with the old mark
null_inside : List ℕ
null_inside = old_pack (padded (numbers 4 (1 ∷ 0 ∷ 3 ∷ [])) ++ (0x05 ∷ [])) (node 2 4 3 0 0 16 0 ∷ []) 3

-- 1, null
null_kept : List ℕ
null_kept = pack (padded (0x01 ∷ []) ++ numbers 4 (1 ∷ 0 ∷ [])) (counting 2 4 2 0 0 0 8 1 ∷ []) 2

-- lists 10 11, null (with a child row under it), 13
null_list : List ℕ
null_list =
    pack (padded (numbers 4 (0 ∷ 2 ∷ 3 ∷ 4 ∷ [])) ++ padded (numbers 4 (10 ∷ 11 ∷ 12 ∷ 13 ∷ [])) ++ (0x05 ∷ []))
    (counting 13 0 3 0 1 32 0 1 ∷ node 2 4 4 0 0 no_bitmap 16 ∷ []) 3

-- 10 11, null
null_list_kept : List ℕ
null_list_kept =
    pack (padded (0x01 ∷ []) ++ padded (numbers 4 (0 ∷ 2 ∷ 2 ∷ [])) ++ numbers 4 (10 ∷ 11 ∷ []))
    (counting 13 0 2 0 1 0 8 1 ∷ node 2 4 2 0 0 no_bitmap 24 ∷ []) 2

-- P1 with the list asked for: 3 places, of which 2 are stored to
listed : Call
listed = call (mask_of 5 0x09) five (stated 2) true (4 ∷ 5 ∷ 6 ∷ []) [] (replicate 64 7)

-- a list of runs: one run of 5, and one place to spare
sliced : Call
sliced = call (mask_of 6 0x3E) (natives (1 ∷ 2 ∷ 3 ∷ 4 ∷ 5 ∷ 6 ∷ [])) unstated true (9 ∷ 9 ∷ 9 ∷ []) [] (replicate 80 7)

bench : List Case
bench =
    -- P1 to P6
    keeps 2 5 Indices (mask_of 5 0x09) five p1 untouched
    ∷ keeps 2 4 Indices with_null (natives (1 ∷ 2 ∷ 3 ∷ 4 ∷ [])) (natives (1 ∷ 3 ∷ [])) untouched
    ∷ keeps 4 5 Indices (mask_of 5 0x0F) five (natives (5 ∷ 6 ∷ 7 ∷ 8 ∷ [])) untouched
    ∷ keeps 5 6 Slices (mask_of 6 0x3E) (natives (1 ∷ 2 ∷ 3 ∷ 4 ∷ 5 ∷ 6 ∷ [])) (natives (2 ∷ 3 ∷ 4 ∷ 5 ∷ 6 ∷ [])) untouched
    ∷ keeps 0 0 None (mask_of 0 0) five (natives []) untouched
    ∷ keeps 3 3 All (mask_of 3 0x07) (natives (1 ∷ 2 ∷ 3 ∷ [])) (natives (1 ∷ 2 ∷ 3 ∷ [])) untouched
    -- P7
    ∷ case (number (compress 64 0xB6 0x5A)) (number 5)
    -- P8 to P11
    ∷ keeps 2 3 Indices (mask_of 3 0x05) (texts 3 (0 ∷ 2 ∷ 2 ∷ 5 ∷ []) abcde) (texts 2 (0 ∷ 2 ∷ 5 ∷ []) abcde) untouched
    ∷ keeps 2 6 Indices (mask_of 6 0x21) (runs_of 6 0 (2 ∷ 5 ∷ 6 ∷ []) (10 ∷ 20 ∷ 30 ∷ [])) (runs_of 2 0 (1 ∷ 2 ∷ []) (10 ∷ 30 ∷ [])) (0 ∷ 9 ∷ [])
    ∷ keeps 2 3 Indices (mask_of 3 0x06) (runs_of 4 1 (2 ∷ 5 ∷ 6 ∷ []) (10 ∷ 20 ∷ 30 ∷ [])) (runs_of 2 0 (2 ∷ []) (20 ∷ [])) (0 ∷ 9 ∷ [])
    ∷ keeps 2 3 Indices (mask_of 3 0x05) null_inside (natives (1 ∷ 3 ∷ [])) untouched
    -- length 128: 126 picks go by runs, 125 compress; 2 stored indices go by row numbers, 3 compress
    ∷ case (number (one (by_route 128 126 false))) (number 1)
    ∷ case (number (one (by_route 128 125 false))) (number 0)
    ∷ case (number (one (by_route 128 2 true))) (number 1)
    ∷ case (number (one (by_route 128 3 true))) (number 0)
    -- stored lists: row numbers; start and end of each run
    ∷ case (outcome listed) (ends (done_with 2 5 Indices 64) p1 (0 ∷ 3 ∷ 6 ∷ []) [])
    ∷ case (outcome sliced) (ends (done_with 5 6 Slices 80) (natives (2 ∷ 3 ∷ 4 ∷ 5 ∷ 6 ∷ [])) (1 ∷ 6 ∷ 9 ∷ []) [])
    -- lists: the child rows of kept rows, with offsets from 0; under a null row none
    ∷ keeps 2 3 Indices (mask_of 3 0x05) (lists_of 3 (1 ∷ 3 ∷ 4 ∷ 5 ∷ []) (9 ∷ 10 ∷ 11 ∷ 12 ∷ 13 ∷ 14 ∷ [])) (lists_of 2 (0 ∷ 2 ∷ 3 ∷ []) (10 ∷ 11 ∷ 13 ∷ [])) (0 ∷ 9 ∷ [])
    ∷ keeps 2 3 Indices (mask_of 3 0x03) null_list null_list_kept (0 ∷ 9 ∷ [])
    -- views: the prefix is the first four data bytes, the unused bytes are zero; a view before skip may be anything
    ∷ keeps 1 2 Indices (mask_of 2 0x01) (views_of no_bitmap 1 (long (0 ∷ 0 ∷ 0 ∷ 0 ∷ []) ∷ long (3 ∷ 4 ∷ 5 ∷ 6 ∷ []) ∷ short 0 ∷ [])) (views_kept (long (3 ∷ 4 ∷ 5 ∷ 6 ∷ []) ∷ [])) untouched
    ∷ keeps 1 2 Indices (mask_of 2 0x02) (views_of no_bitmap 1 (short 1 ∷ long (3 ∷ 4 ∷ 5 ∷ 6 ∷ []) ∷ short 0 ∷ [])) (views_kept (short 0 ∷ [])) untouched
    -- null counts: of the kept rows, from a journal that carries one and from one with the old mark; a skipped row does not count
    ∷ keeps 2 3 Indices (mask_of 3 0x03) (counted 1) null_kept untouched
    ∷ keeps 2 3 Indices (mask_of 3 0x03) null_inside null_kept untouched
    ∷ keeps 2 3 Indices (mask_of 3 0x05) (counted 1) (natives (1 ∷ 3 ∷ [])) untouched
    ∷ keeps 2 2 All (mask_of 2 0x03) (skipping 1) null_kept untouched
    -- offsets are rebuilt from 0, not from the source's first
    ∷ keeps 2 3 Indices (mask_of 3 0x05) (texts 3 (1 ∷ 3 ∷ 3 ∷ 6 ∷ []) (0x78 ∷ abcde)) (texts 2 (0 ∷ 2 ∷ 5 ∷ []) abcde) untouched
    ∷ []

refusals : List Case
refusals =
    refusal 1 Mask (plain 99 (replicate 15 0) five)
    ∷ refusal 2 Mask (plain 99 (take 63 (mask_of 5 9) ++ (0 ∷ [])) five)
    ∷ refusal 3 Journal (plain 99 (mask_of 5 9) (pack [] [] 0))
    ∷ refusal 4 Journal (plain 99 (mask_of 5 9) (pack [] (node 99 0 5 0 0 no_bitmap 0 ∷ []) 5))
    ∷ refusal 5 Journal (plain 99 (mask_of 5 9) (pack [] (node 10 0 5 0 1 no_bitmap 0 ∷ []) 5))
    ∷ refusal 6 Journal (plain 99 (mask_of 5 9) (pack [] (node 2 4 1_048_577 0 0 no_bitmap 0 ∷ []) 1_048_577))
    ∷ refusal 7 Journal (plain 99 (mask_of 3 5) (pack (replicate 8 0) (node 2 4 3 0 0 no_bitmap 0 ∷ []) 3))
    ∷ refusal 8 Journal (plain 99 (mask_of 2 1) (texts 2 (0 ∷ 3 ∷ 2 ∷ []) abcde))
    ∷ refusal 8 Journal (plain 99 (mask_of 2 1) (lists_of 2 (0 ∷ 1 ∷ 3 ∷ []) (7 ∷ 8 ∷ [])))
    -- an untrue prefix, by its first byte or its last; an unused byte that is not zero; the same of a null row, and of rows that are not picked
    ∷ refusal 8 Journal (plain 99 (mask_of 1 0x01) (views_of no_bitmap 0 (long (2 ∷ 4 ∷ 5 ∷ 6 ∷ []) ∷ [])))
    ∷ refusal 8 Journal (plain 99 (mask_of 1 0x01) (views_of no_bitmap 0 (long (3 ∷ 4 ∷ 5 ∷ 7 ∷ []) ∷ [])))
    ∷ refusal 8 Journal (plain 99 (mask_of 1 0x01) (views_of no_bitmap 0 (short 1 ∷ [])))
    ∷ refusal 8 Journal (plain 99 (mask_of 1 0x00) (views_of 32 0 (long (2 ∷ 4 ∷ 5 ∷ 6 ∷ []) ∷ [])))
    ∷ refusal 8 Journal (plain 99 (mask_of 1 0x00) (views_of 32 0 (short 1 ∷ [])))
    ∷ refusal 9 Mask (plain 99 five five)
    ∷ refusal 10 Journal (plain 99 (mask_of 6 9) five)
    ∷ refusal 11 Mask (call with_null [] (stated 3) false [] [] [])
    ∷ refusal 12 Journal (call (mask_of 5 0x0B) five unstated true (4 ∷ 5 ∷ []) [] [])
    ∷ refusal 13 Journal
    (call (mask_of 5 9) (runs_of 9 0 (1 ∷ 2 ∷ 3 ∷ 4 ∷ 5 ∷ 6 ∷ 7 ∷ 8 ∷ 9 ∷ []) (replicate 9 1)) unstated false [] (9 ∷ []) [])
    ∷ refusal 13 Journal (call (mask_of 1 1) (lists_of 1 (0 ∷ 9 ∷ []) (replicate 9 1)) unstated false [] (9 ∷ []) [])
    ∷ refusal 14 Journal (plain 63 (mask_of 5 9) five)
    -- 20: straight after 8, and before 9, 10 and 11
    ∷ refusal 20 Mask (plain 99 (saying 2) five)
    ∷ refusal 20 Mask (plain 99 (counted 0) five)
    ∷ refusal 20 Mask (call (saying 0) five (stated 3) false [] [] [])
    ∷ refusal 20 Journal (plain 99 (mask_of 6 9) (counted 2))
    ∷ refusal 20 Journal (plain 99 (mask_of 2 3) (skipping 2))
    ∷ refusal 20 Journal (plain 99 (mask_of 1 1) (pack (numbers 4 (1 ∷ [])) (counting 2 4 1 0 0 no_bitmap 0 1 ∷ []) 1))
    -- with the old mark the last field is unused
    ∷ refusal 4 Journal (plain 99 (mask_of 1 1) (old_pack (numbers 4 (1 ∷ [])) (counting 2 4 1 0 0 no_bitmap 0 1 ∷ []) 1))
    ∷ []

cases : List Case
cases = bench ++ refusals

-- a test that two lists are the same, item by item: a test computes in a tenth of the time that a comparison of both sides takes
same : {A : Type 0} → (A → A → Bool) → List A → List A → Bool
same t [] [] = true
same t [] (y ∷ ys) = false
same t (x ∷ xs) [] = false
same t (x ∷ xs) (y ∷ ys) = t x y && same t xs ys

same-is : {A : Type 0} (t : A → A → Bool) → ((x y : A) → t x y ≡ true → x ≡ y) → (xs ys : List A) → same t xs ys ≡ true → xs ≡ ys
unfolding same
same-is t h [] [] e = refl
same-is t h [] (y ∷ ys) e = absurd (false≢true e)
same-is t h (x ∷ xs) [] e = absurd (false≢true e)
same-is t h (x ∷ xs) (y ∷ ys) e =
    let both = (and-eq-true_iff (t x y) (same t xs ys)).0 e in
    ap₂ ◌∷◌ (h x y both.0) (same-is t h xs ys both.1)

test : same (same (same eqb)) (map (λ (c : Case). c.found) cases) (map (λ (c : Case). c.expected) cases) ≡ true
unfolding Bytes.opened Words.opened Node.opened Verdict.opened Masks.opened Kept.opened Write.opened Refusals.opened Reasons.opened Answers.opened marked pack old_pack counting node mask_of natives texts runs_of lists_of views_of views_kept long short call plain outcome case refusal keeps untouched five p1 saying with_null counted skipping null_inside null_kept null_list null_list_kept abcde listed sliced bench refusals cases in_numbers same
test = refl

-- the one statement
all-cases : map (λ (c : Case). c.found) cases ≡ map (λ (c : Case). c.expected) cases
all-cases = same-is (same (same eqb)) (same-is (same eqb) (same-is eqb eqb-true)) _ _ test

-- demand 3's premises hold of two calls that differ in all that must not show. The journals are a struct of six columns: native,
-- texts, runs, a dictionary, bits, lists; rows 0 and 3 are kept
unfoldable pub pieces : List (List ℕ) → List ℕ
pieces ps = join (map padded ps)

unfoldable pub place : ℕ → List (List ℕ) → ℕ
place k ps = length (pieces (take k ps))

-- five rows, no skip, no bitmap but that of the lists, whose row 3 is null, every byte used
unfoldable pub tight : List (List ℕ)
tight =
    numbers 4 (5 ∷ 6 ∷ 7 ∷ 8 ∷ 9 ∷ [])
    ∷ numbers 4 (0 ∷ 2 ∷ 2 ∷ 2 ∷ 5 ∷ 5 ∷ [])
    ∷ abcde
    ∷ numbers 4 (1 ∷ 3 ∷ 5 ∷ [])
    ∷ numbers 4 (10 ∷ 20 ∷ 30 ∷ [])
    ∷ (1 ∷ 0 ∷ 0 ∷ 0 ∷ 1 ∷ [])
    ∷ numbers 2 (100 ∷ 200 ∷ [])
    ∷ (0x09 ∷ [])
    ∷ (0x17 ∷ [])
    ∷ numbers 4 (0 ∷ 2 ∷ 3 ∷ 3 ∷ 3 ∷ 4 ∷ [])
    ∷ numbers 2 (40 ∷ 41 ∷ 42 ∷ 43 ∷ [])
    ∷ []

unfoldable pub tight_journal : List ℕ
tight_journal =
    pack (pieces tight)
    (node 10 0 5 0 6 no_bitmap 0
    ∷ node 2 4 5 0 0 no_bitmap (place 0 tight)
    ∷ (4 ∷ 0 ∷ 5 ∷ 0 ∷ 0 ∷ no_bitmap ∷ place 1 tight ∷ place 2 tight ∷ 5 ∷ 0 ∷ [])
    ∷ node 9 4 5 0 1 no_bitmap (place 3 tight)
    ∷ node 2 4 3 0 0 no_bitmap (place 4 tight)
    ∷ node 12 1 5 0 1 no_bitmap (place 5 tight)
    ∷ node 2 2 2 0 0 no_bitmap (place 6 tight)
    ∷ node 1 0 5 0 0 no_bitmap (place 7 tight)
    ∷ counting 13 0 5 0 1 (place 8 tight) (place 9 tight) 1
    ∷ node 2 2 4 0 0 no_bitmap (place 10 tight)
    ∷ [])
    5

-- six rows, a skip in every node but the keys', bitmaps in which no kept row is null, other null counts, other values, texts, runs and keys in the dropped
-- rows, text bytes, a run and list rows that no kept row has, list rows under the null list, keys of null rows past the dictionary, spare bits
-- set, buffers in another order
unfoldable pub loose : List (List ℕ)
loose =
    (0xAA ∷ 0xAA ∷ 0xAA ∷ [])
    ∷ (0x4F ∷ 0xFE ∷ [])
    ∷ numbers 2 (55 ∷ 100 ∷ 200 ∷ [])
    ∷ (0x06 ∷ [])
    ∷ (1 ∷ 250 ∷ 250 ∷ 0 ∷ 250 ∷ 250 ∷ [])
    ∷ (0x09 ∷ [])
    ∷ numbers 4 (77 ∷ 10 ∷ 99 ∷ 30 ∷ [])
    ∷ numbers 4 (2 ∷ 4 ∷ 7 ∷ [])
    ∷ (0x78 ∷ 0x61 ∷ 0x62 ∷ 0x79 ∷ 0x63 ∷ 0x64 ∷ 0x65 ∷ 0x7A ∷ 0x7A ∷ 0x7A ∷ [])
    ∷ numbers 4 (0 ∷ 1 ∷ 3 ∷ 4 ∷ 4 ∷ 7 ∷ 9 ∷ 9 ∷ [])
    ∷ (0x24 ∷ [])
    ∷ numbers 4 (44 ∷ 45 ∷ 5 ∷ 46 ∷ 47 ∷ 8 ∷ 48 ∷ 49 ∷ [])
    ∷ (0x90 ∷ 0xFC ∷ [])
    ∷ numbers 2 (60 ∷ 61 ∷ 40 ∷ 41 ∷ 62 ∷ 63 ∷ 64 ∷ 65 ∷ [])
    ∷ numbers 4 (77 ∷ 1 ∷ 3 ∷ 4 ∷ 4 ∷ 6 ∷ 6 ∷ 7 ∷ [])
    ∷ (0xEB ∷ [])
    ∷ []

unfoldable pub loose_journal : List ℕ
loose_journal =
    pack (pieces loose)
    (counting 10 0 6 4 6 (place 12 loose) 0 4
    ∷ counting 2 4 6 2 0 (place 10 loose) (place 11 loose) 4
    ∷ (4 ∷ 0 ∷ 6 ∷ 1 ∷ 0 ∷ no_bitmap ∷ place 9 loose ∷ place 8 loose ∷ 10 ∷ 0 ∷ [])
    ∷ node 9 4 6 1 1 no_bitmap (place 7 loose)
    ∷ node 2 4 3 1 0 no_bitmap (place 6 loose)
    ∷ counting 12 1 6 0 1 (place 5 loose) (place 4 loose) 4
    ∷ node 2 2 2 1 0 (place 3 loose) (place 2 loose)
    ∷ node 1 0 6 3 0 no_bitmap (place 1 loose)
    ∷ counting 13 0 6 1 1 (place 15 loose) (place 14 loose) 2
    ∷ node 2 2 7 1 0 no_bitmap (place 13 loose)
    ∷ [])
    6

-- room for the whole extract of either, and eight bytes more
unfoldable pub one_way : Call
one_way = call (mask_of 5 0x09) tight_journal unstated false [] (9 ∷ 9 ∷ []) (replicate 528 7)

-- another mask too: the old mark, a skip, true bits that are null, spare bits set; the list asked for; more scratch
unfoldable pub other_way : Call
other_way = call (old_pack (0x7F ∷ 0xD2 ∷ []) (node 1 0 5 1 0 1 0 ∷ []) 5) loose_journal unstated true (1 ∷ 2 ∷ 3 ∷ []) (8 ∷ 8 ∷ 8 ∷ []) (replicate 528 7)

pub premises-hold : Alike one_way other_way
unfolding Bytes.opened Node.opened Verdict.opened Masks.opened Kept.opened Write.opened Refusals.opened Reasons.opened Answers.opened marked pack old_pack counting node mask_of call abcde pieces place tight tight_journal loose loose_journal one_way other_way
premises-hold =
    record {
      mask_c = refl;
      mask_d = refl;
      journal_c = refl;
      journal_d = refl;
      one_length = refl;
      same_picks = refl;
      long_c = lit≤ tt;
      long_d = lit≤ tt;
      same_columns = refl;
      same_kept = refl;
      list_c = refl;
      list_d = refl;
      scratch_c = refl;
      scratch_d = refl;
      same_output = refl;
      same_stated = refl;
    }

-- and neither call is refused: both give an extract of 520 bytes
pub premises-succeed : answer one_way ≡ done_with 2 5 Indices 520
unfolding Bytes.opened Node.opened Verdict.opened Masks.opened Kept.opened Write.opened Refusals.opened Reasons.opened Answers.opened marked pack old_pack counting node mask_of call abcde pieces place tight tight_journal one_way
premises-succeed = refl
