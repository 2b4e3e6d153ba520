-- The extract of a call that is not refused is itself an accepted pack, and read back under a mask that is all true it gives the very kept part that it was
-- made from, and so itself again, byte for byte. Assumes nothing.
use Prim.Native.Nat.{ℕ, ◌≤◌, ◌<◌}
use mathlib.Core.Path.{◌≡◌, sym, ap, ap₂, ◌∙◌}
use mathlib.Core.Bool.{Bool}
use mathlib.Core.List.{List}
use native.Mathlib.Omega.{arith}
use borrow.Author.Tests.{ltb-false}
use lib.Dec.{ltb}
use lib.ListN.{length, get_or, take}
use Rattle.format.specs.Bytes.{chosen}
use Rattle.format.specs.Node.{rows}
use Rattle.format.specs.Verdict.{pack_limit, journal_verdict, conditions, first_of}
use Rattle.format.specs.Mask.{picked, picks, mask_length, count}
use Rattle.format.specs.Kept.{kept_part}
use Rattle.format.specs.Write.{extract}
use Rattle.format.specs.Refusal.{unrefused}
use Rattle.format.specs.Answer.{Call, refusal_of, too_long, output_short, extract_of, output_after}
use Rattle.format.proofs.Laws.{kept-root}
use Rattle.format.proofs.Accepted.{or_right}
use Rattle.format.proofs.Refusals.{passed, passed-verdict, passed-test, front}
use Rattle.roundtrip.specs.Back.{Extracted, ReadBack, Then, all_rows}
use Rattle.roundtrip.proofs.Rows.{chosen-below, chosen-all}
use Rattle.roundtrip.proofs.Again.{facts, rows-kept, columns-again, kept_again, extract-again}
use Rattle.roundtrip.proofs.Shape.{size-right, mark-right, table-right, fields-right, tree-right, rows_right, buffers-right, nulls-right}
use Rattle.roundtrip.proofs.Content.{content-right}

-- ---- a journal and its picked rows

pub accepted-again : {b rs : List ℕ} → Extracted b rs → journal_verdict (extract b rs) ≡ 0
unfolding journal_verdict conditions first_of
accepted-again x =
    rw (size-right x, mark-right x, table-right x, fields-right x, tree-right x, rows_right x, buffers-right x, content-right x, nulls-right x)

pub read_back : {b rs : List ℕ} → Extracted b rs → ReadBack b rs
read_back {b} {rs} x =
    record {
      accepted = accepted-again x;
      same_columns = columns-again x;
      as_many = rows-kept x 0 (omega (arith, (facts x).shape.some)) ∙ ap length (kept-root b rs);
      same_kept = kept_again x;
      same_extract = extract-again x;
    }

-- the same, from rows that are chosen below the journal's
module _ (b rs : List ℕ) (p : ℕ → Bool) (n : ℕ)
    (v : journal_verdict b ≡ 0) (rising : rs ≡ chosen p n) (below : n ≤ rows b 0) (short : length (extract b rs) ≤ pack_limit) (bytes : (k : ℕ) → get_or b k 0 < 256) where
  extracted : Extracted b rs
  extracted = record { accepted = v; bytes = bytes; picked = rw rising (chosen-below p n (rows b 0) below); short = short }

  pub extract-accepted : journal_verdict (extract b rs) ≡ 0
  extract-accepted = accepted-again extracted

  pub kept-read-back : kept_part (extract b rs) (all_rows (rows (extract b rs) 0)) ≡ kept_part b rs
  kept-read-back = kept_again extracted

-- ---- a call

pub call-extracted : (c : Call) → refusal_of c ≡ unrefused → ((k : ℕ) → get_or c.journal k 0 < 256) → Extracted c.journal (picks c.mask)
unfolding refusal_of picks too_long output_short extract_of
call-extracted c done bytes =
    let (mask, e1) = passed _ _ done in
    let (counted, e2) = passed _ _ e1 in
    let (journal, e3) = passed _ _ e2 in
    let (long, e4) = passed _ _ e3 in
    let (list, e5) = passed _ _ e4 in
    let (scratch, room) = passed _ _ e5 in
    record {
      accepted = passed-verdict _ (journal_verdict c.journal) journal;
      bytes = bytes;
      picked =
          chosen-below (picked c.mask) (mask_length c.mask) (rows c.journal 0)
          (ltb-false (rows c.journal 0) (mask_length c.mask) (passed-test (too_long c) _ _ long));
      short =
          ltb-false pack_limit (length (extract_of c)) (or_right (ltb (length c.output) (length (extract_of c))) _ (passed-test (output_short (length c.output) (length (extract_of c))) _ _ room));
    }

-- the extract is what stands at the front of the output
pub output-front : (c : Call) → refusal_of c ≡ unrefused → take (length (extract_of c)) (output_after c) ≡ extract_of c
unfolding output_after
output-front c done = front (refusal_of c) (extract_of c) c.output done

pub call-read-back : (c : Call) → refusal_of c ≡ unrefused → ((k : ℕ) → get_or c.journal k 0 < 256) → ReadBack c.journal (picks c.mask)
call-read-back c done bytes = read_back (call-extracted c done bytes)

-- a second call on the extract, under a mask that is all true
module _ (c d : Call) (t : Then c d) where
  back : ReadBack c.journal (picks c.mask)
  back = call-read-back c t.done t.bytes

  all-picked : picks d.mask ≡ all_rows (rows (extract_of c) 0)
  unfolding picks extract_of count
  all-picked = chosen-all (picked d.mask) (mask_length d.mask) t.all_true ∙ ap all_rows (t.whole ∙ sym back.as_many)

  pub accepted-then : journal_verdict d.journal ≡ 0
  unfolding extract_of
  accepted-then = ap journal_verdict t.handed ∙ back.accepted

  pub kept_then : kept_part d.journal (picks d.mask) ≡ kept_part c.journal (picks c.mask)
  unfolding extract_of
  kept_then = ap₂ kept_part t.handed all-picked ∙ back.same_kept

  pub extract-then : extract_of d ≡ extract_of c
  unfolding extract_of
  extract-then = ap₂ extract t.handed all-picked ∙ back.same_extract
