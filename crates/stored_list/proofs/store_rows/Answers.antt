-- `stored_list::store_rows` meets its contract: the rows of word w are the next to store. Assumes nothing.
use Rattle.std.proofs.Common.{◌≡◌, ◌+◌, ◌*◌, ◌++◌, refl, arith}
use Rattle.format.specs.Rows.{set_rows}
use Rattle.format.proofs.Put.{whole, less, room, done}
use Rattle.slots.specs.Slot.{slot_in}
use Rattle.slots.proofs.Reading.{slot-past}
use Rattle.predicate.specs.Blocks.{picks_on}
use Rattle.predicate.proofs.Picks.{picks_start, picks-whole, picks-over, word_below}
use Rattle.stored_list.proofs.store_rows.Goals as goal
use Rattle.stored_list.proofs.store_rows.Goals.{After-word_in, After-word}

pub loop-w-init : goal.loop-w-init
loop-w-init c = whole refl (picks_start _ _)

first_off : (c : After-word_in) →
    let s = c.args.source in
    let p = slot_in s in
    let w = c.loop-w.w in
    picks_on p s.bits.len (64 * w) ≡ set_rows (64 * w) c.word_in.result ++ picks_on p s.bits.len (64 * (w + 1))
first_off c = picks-whole _ _ (slot-past _ _) _ c.word_in.ensures (omega arith)

pub put_word-here-requires : goal.put_word-here-requires
put_word-here-requires c =
    record {
      below = word_below _ _ (slot-past _ _) _ _ c.word_in.ensures (omega arith) (omega arith);
      word_in_bounds = room (set_rows _ _) (picks_on _ _ _) c.loop-w.invariant (first_off c) (omega arith);
    }

pub loop-w-preserved : goal.loop-w-preserved
loop-w-preserved c = less c.loop-w.invariant (first_off (goal.at.loop-w-preserved c).After-word_in) c.put_word-here.ensures

-- the last two words
next_off : (c : After-word) →
    let s = c.args.source in
    let p = slot_in s in
    let w = c.loop-w-2.w in
    picks_on p s.bits.len (64 * w) ≡ set_rows (64 * w) c.word.result ++ picks_on p s.bits.len (64 * (w + 1))
next_off c = picks-whole _ _ (slot-past _ _) _ c.word.ensures (omega arith)

pub put_word-here-requires-in-loop-w-2 : goal.put_word-here-requires-in-loop-w-2
put_word-here-requires-in-loop-w-2 c =
    record {
      below = word_below _ _ (slot-past _ _) _ _ c.word.ensures (omega arith) (omega arith);
      word_in_bounds = room (set_rows _ _) (picks_on _ _ _) c.loop-w-2.invariant (next_off c) (omega arith);
    }

pub loop-w-2-preserved : goal.loop-w-2-preserved
loop-w-2-preserved c = less c.loop-w-2.invariant (next_off (goal.at.loop-w-2-preserved c).After-word) c.put_word-here-in-loop-w-2.ensures

pub returns : goal.returns
returns c = done c.loop-w-2.invariant (picks-over _ _ _ (omega arith)) refl

pub loop-w-2-init : goal.loop-w-2-init
loop-w-2-init c = let e : c.loop-w.w ≡ c.saturating_sub-whole.result = omega arith in rw e at c.loop-w.invariant
